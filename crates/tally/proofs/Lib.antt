pub mod Trimming  -- counts, and what is left of them
pub mod Parts  -- the text, part by part
