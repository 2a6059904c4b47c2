-- Poses/: rotations, shown triples, the arithmetic of poses, and the sheet.
pub mod Turning  -- rotations compose as they act
pub mod Naming  -- rotations by the triples that name them
pub mod Showing  -- the shown triple
pub mod Laws  -- following on, and the inverse
pub mod Arithmetic  -- the same by offset and shown triple, as document 02 §5 says it
pub mod Relative  -- one system seen from another, as document 02 §3 asks
pub mod Sheet  -- all 64 triples on a sheet, as document 02 §14 says it
