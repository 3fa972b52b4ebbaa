-- The table afresh (demand 3) as one claim, down to printed lines. Read Demand3, then Demand3Theorems. What they speak
-- of: calls on lent memory (Lent, Run), the calls exported for C (Hosted), the graph and the calls that the records of
-- an input give (Input), a table record and its bytes (Tables), the program's steps (Program), growths read back from
-- lines (Reading), the dual variable that a vertex carries (Carried), what the history says of a node (NodeRecorded).
-- Files that end in Theorems have proofs that cite laws: EveryRunTheorems what holds of every list of calls,
-- ObstacleTheorems what a length means in the terms of matching, PrintedTheorems what holds of lines; ExampleTheorems and
-- LentExampleTheorems show that nothing is vacuous. These stand in proofs/, their proofs in proofs/laws/. RoundExampleTheorems has a run with rounds.
-- FromSheetTheorems: runs that begin with an opening from a sheet, with SheetExampleTheorems. ListTheorems: a list of
-- calls that fb_calls makes (Listed) is one of its calls.
pub mod Lent
pub mod Run
pub mod Hosted
pub mod Listed
pub mod Carried
pub mod NodeRecorded
pub mod Input
pub mod Reading
pub mod Tables
pub mod Program
pub mod Demand3
pub mod Opens
