-- The algorithms that the contracts of `draft` cite: a node's words, the nodes found, exploring, what these ask, the values and the words written.
pub mod Fronts
pub mod Nodes
pub mod Exploration
pub mod Asked
pub mod Values
pub mod Writing
