pub mod Starting  -- a start, by what the machine's start promises
pub mod Serving  -- what is handed out for a part, and what is held after it
