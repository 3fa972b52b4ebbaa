-- Every small patch (SPECIFICATION 16): the graphs on vertices 0 to 3, vertex 3 virtual, in which each pair is absent,
-- of weight 2 or of weight 4. SmallPatch defines and lists them, Reach which of their vertices reach vertex 3; Theorems
-- says what is proved of both.
pub mod SmallPatch
pub mod Reach
pub mod Words
