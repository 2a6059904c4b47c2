-- Ladder/: reading a line, and the number with which it is refused.
pub mod Reading  -- what a line asks for is legal
pub mod First  -- a ladder in the order of the numbers gives the first that applies
pub mod Refusing  -- a refused call changes nothing but the last error
pub mod Exact  -- the number of a call is exact
pub mod Queries  -- a query sent in a well-formed state
