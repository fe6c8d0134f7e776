pub mod RootRow
