-- Chains/: links, chains and what is reached along them.
pub mod Hops  -- links, and chains that end
pub mod Steps  -- the steps, places and resultant of a chain that ends
pub mod Carry  -- two lists of systems that are alike along a chain
pub mod Relink  -- one system replaced, or one put last
pub mod Frames  -- the enabled frames of two memories that are alike along every enabled chain
pub mod Looked  -- the systems that the test for use looks at
pub mod Counted  -- how many they are at most
pub mod Standing  -- the systems in use of two memories that are alike along every enabled chain
pub mod Recurrences  -- the resultant, the steps and the chain by the predecessor's
