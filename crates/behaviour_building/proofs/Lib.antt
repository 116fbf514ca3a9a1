pub mod NoTree
