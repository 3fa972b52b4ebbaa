-- Laws about the definitions in specs/, and the theorems; edits of must-fail/ that change a definition are refused here.
pub mod Examples
pub mod Theorems
pub mod laws
