pub mod Parts  -- lines and angles, part by part
