-- Laws about the definitions in specs/, and the theorems; edits of must-fail/ that change a definition are refused here.
pub mod Demand3Theorems
pub mod EveryRunTheorems
pub mod ExampleTheorems
pub mod FromSheetTheorems
pub mod LentExampleTheorems
pub mod ListTheorems
pub mod ObstacleTheorems
pub mod PrintedTheorems
pub mod RoundExampleTheorems
pub mod SheetExampleTheorems
pub mod laws
