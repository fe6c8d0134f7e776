pub mod LeafBits
