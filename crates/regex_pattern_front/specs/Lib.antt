pub mod Intervals
pub mod AstToSpecTree
pub mod ByteSetMembers
pub mod FirstPassingIndex
pub mod OptimizedTrees
pub mod IterativeDropMeasure
pub mod SubtreeListInvariants
