-- Graph P in words, as a protocol: an opening, a defect at vertex 1, the same call again with a scratch of no words, another opening that is
-- refused, a growth by 2, node 0 and the table that are read then. So the claim's lists of calls on lent memory are there, and tables that are not zero.
use Rattle.std.specs.Prelude.{ℕ, ◌≡◌, refl, true, List, [], ◌∷◌, map, ℤ, pos, negsuc}
use Rattle.std.proofs.Common.{arith, sym, ◌∙◌}
use Rattle.graph.specs.Open.{Edge}
use Rattle.graph.specs.Layout.{state_of}
use Rattle.graph.specs.Opening.{flattened, zeros, edges_from, virtuals_from, opened_words, OpenCalled}
use Rattle.graph.specs.laws.Members.{clash}
use Rattle.memory_tests.specs.laws.Block.{block-formed}
use Rattle.answers.specs.Outcome.{Done, Node, Refused}
use Rattle.calls.specs.Calls.{InsertBlossom, InsertDefect, Grow}
use Rattle.calls.specs.Examples.{edge}
use Rattle.dual_module.specs.Called.{DefectCalled, GrowCalled}
use Rattle.dual_module_read.specs.Read.{TableRead}
use Rattle.c_api.specs.Words.{answer_numbers, open_answer, short_list, short_count}
use Rattle.c_api.specs.Told.{OpenTold, DefectTold, GrowTold, TableTold}
use Rattle.opened_graph.specs.OpenedGraph.{with_weights}
use Rattle.table_claim.specs.Opens.{everything_lent}
use Rattle.table_claim.specs.Lent.{lent_blossom, open-refused, insert-defect, grow, none, next, read-node}
use Rattle.table_claim.specs.Run.{fed, LentRun, run_sizes, run_start, run_calls, history_by, lent_history, WithoutBlossoms}
use Rattle.dual_module_node.specs.Outcome.{Defect}
use Rattle.dual_module_node.specs.ReadNode.{node_told, read_node, read_unless, ReadNodeCalled}
use Rattle.c_api_node.specs.Told.{read_node_numbers, ReadNodeTold}
use Rattle.table_theorem.specs.History.{entry_at}
use Rattle.table_claim.proofs.EveryRunTheorems.{protocol-tells-history}
use Rattle.table_claim.specs.Carried.{carried}
use Rattle.table_claim.specs.Hosted.{SaysDone, fb-insert-defect, fb-grow, fb-read-node, no_more, one_more, HostRun, host_history, BlossomsRefused}
use Rattle.table_claim.specs.Demand3.{afresh}
use Rattle.table_claim.proofs.Demand3Theorems.{read-dual-is-recorded, told-dual-is-recorded}
use Rattle.table_claim.proofs.ExampleTheorems.{demand-on-P}

abbrev pub edges : List Edge
edges = edge 0 1 4 ∷ edge 1 2 4 ∷ edge 2 3 4 ∷ []

abbrev pub virtuals : List ℕ
virtuals = 0 ∷ 3 ∷ []

abbrev pub words : List ℕ → List ℤ
words l = map pos l

abbrev pub edge_words_p : List ℤ
edge_words_p = words (0 ∷ 1 ∷ 4 ∷ 1 ∷ 2 ∷ 4 ∷ 2 ∷ 3 ∷ 4 ∷ [])

abbrev pub scratch : List ℤ
scratch = words (zeros 16)

abbrev pub block : List ℤ
block = words (zeros 140)

abbrev pub opened_p : List ℤ
opened_p = words (opened_words 4 3 4 40 edges virtuals)

pub opening : OpenCalled block scratch 4 3 4 40 edge_words_p (words virtuals) opened_p 0
unfolding everything_lent
opening = (refl, refl)

abbrev rows_with : ℕ → List (List ℕ)
rows_with y =
    (4 ∷ 3 ∷ 4 ∷ 40 ∷ 1 ∷ 1 ∷ zeros 10)
    ∷ (1 ∷ 2 ∷ 0 ∷ 1 ∷ []) ∷ (0 ∷ 1 ∷ 0 ∷ 0 ∷ []) ∷ (0 ∷ 1 ∷ 0 ∷ 0 ∷ []) ∷ (0 ∷ 1 ∷ 3 ∷ 5 ∷ [])
    ∷ (0 ∷ 1 ∷ 1 ∷ 2 ∷ 2 ∷ 3 ∷ []) ∷ (0 ∷ y ∷ y ∷ 0 ∷ 0 ∷ 0 ∷ []) ∷ (0 ∷ 1 ∷ 1 ∷ 0 ∷ 0 ∷ 0 ∷ []) ∷ (0 ∷ 1 ∷ 1 ∷ 0 ∷ 0 ∷ 0 ∷ []) ∷ (0 ∷ 1 ∷ 2 ∷ 3 ∷ 4 ∷ 5 ∷ [])
    ∷ (4 ∷ 4 ∷ 4 ∷ [])
    ∷ (1 ∷ zeros 3) ∷ (1 ∷ zeros 3) ∷ zeros 4 ∷ (y ∷ zeros 3) ∷ zeros 4 ∷ (2 ∷ zeros 3) ∷ zeros 4
    ∷ (1 ∷ 2 ∷ zeros 38) ∷ (0 ∷ zeros 3) ∷ (4 ∷ 4 ∷ 4 ∷ []) ∷ []

abbrev pub block_with : ℕ → List ℤ
block_with y = words (flattened (rows_with y))

pub inserted : DefectCalled opened_p scratch 1 1 (block_with 0) scratch (Node 0)
unfolding everything_lent
inserted = record {
  block = record { answer = refl; state = refl; formed = λ e. block-formed (block_with 0) refl refl; unchanged = λ e. clash true refl e; len = refl };
  scratch = refl;
}

grown : GrowCalled (block_with 0) scratch 0 (pos 2) (block_with 2) scratch Done
unfolding everything_lent
grown = record {
  block = record { answer = refl; state = refl; formed = λ e. block-formed (block_with 2) refl refl; unchanged = λ e. clash true refl e; len = refl };
  scratch = refl;
}

-- node 0 is read: a defect at vertex 1, in Grow, in no blossom, of dual variable 2
node-read : ReadNodeCalled (block_with 2) scratch 0 (Defect 1 1 0 2)
unfolding everything_lent read_unless read_node node_told
node-read = refl

-- refused 1, and nothing changed
not-lent : DefectCalled (block_with 0) [] 1 1 (block_with 0) [] (Refused 1)
unfolding everything_lent
not-lent = record {
  block = record { answer = refl; state = refl; formed = λ e. block-formed (block_with 0) refl refl; unchanged = λ e. refl; len = refl };
  scratch = refl;
}

-- refused 1 too: the block is not that of another N
not_opened : OpenCalled (block_with 0) scratch 4 3 5 40 edge_words_p (words virtuals) (block_with 0) 1
unfolding everything_lent
not_opened = (refl, refl)

pub standing : with_weights (edges_from edge_words_p) (state_of (block_with 2)).graph.weight ≡ edges
unfolding everything_lent
standing = refl

pub virtuals-given : virtuals_from (words virtuals) ≡ virtuals
unfolding everything_lent
virtuals-given = refl

abbrev run : LentRun 4 edges virtuals
run = record {
  edge_number = 3;
  node_limit = 4;
  store_limit = 40;
  before = block;
  scratch = scratch;
  edge_words = edge_words_p;
  virtual_words = words virtuals;
  virtuals-are = virtuals-given;
  first = opened_p;
  opening-is = opening;
  exchanges = _;
  last = block_with 2;
  steps = next (insert-defect inserted)
      (next (insert-defect not-lent)
      (next (open-refused not_opened (λ e. absurd (omega arith))) (next (grow grown) (next (read-node node-read) none))));
  present = standing;
}

-- the definitions are asked the defect and the growth
calls-fed : run_calls run ≡ InsertDefect 1 1 ∷ Grow 0 (pos 2) ∷ []
unfolding everything_lent
calls-fed = refl

-- the history, by what the host got: node 0 at vertex 1, in Grow, with dual variable 2
history-told : history_by (run_sizes run) (run_start run) [] run.exchanges ≡ record { vertex = 1; grow_state = 1; y = pos 2 } ∷ []
unfolding everything_lent
history-told = refl

-- and so is the one by the definitions, which never saw the protocol
history-is : lent_history run ≡ record { vertex = 1; grow_state = 1; y = pos 2 } ∷ []
history-is = sym (protocol-tells-history run) ∙ history-told

blossomless : WithoutBlossoms run
unfolding everything_lent
blossomless = refl

-- the dual variable that was read is that of the history
dual-is : pos 2 ≡ (entry_at (lent_history run) 0).y
dual-is = read-dual-is-recorded run blossomless scratch 0 1 1 0 2 node-read

table-read : TableRead (block_with 2) scratch (words (zeros 6)) (words (0 ∷ 2 ∷ 2 ∷ 0 ∷ 0 ∷ 0 ∷ [])) Done
unfolding everything_lent
table-read = record { answer = refl; listed = refl }

from-distances : words (0 ∷ 2 ∷ 2 ∷ 0 ∷ 0 ∷ 0 ∷ []) ≡ words (afresh 4 edges virtuals (lent_history run))
from-distances = (demand-on-P.after-calls (λ a k. refl) run blossomless).table scratch (words (zeros 6)) (words (0 ∷ 2 ∷ 2 ∷ 0 ∷ 0 ∷ 0 ∷ [])) table-read

-- vertex 1 carries 2 in the block
carries-2 : carried (state_of (block_with 2)) 1 ≡ 2
unfolding everything_lent
carries-2 = refl

-- a word of a circle that is below 0 names no node
circle-fed : fed (run_sizes run) (lent_blossom scratch 1 (pos 0 ∷ negsuc 0 ∷ []) ∷ []) ≡ InsertBlossom 1 (0 ∷ 9223372036854775807 ∷ []) ∷ []
unfolding everything_lent
circle-fed = refl

-- ---- the same by the functions exported for C, with five words for each answer; with three a growth is refused 1, with none it is told nothing

abbrev five : List ℕ
five = 0 ∷ 0 ∷ 0 ∷ 0 ∷ 0 ∷ []

opening-told : OpenTold block scratch 4 3 4 40 edge_words_p (words virtuals) opened_p five (7 ∷ 0 ∷ 0 ∷ 0 ∷ 0 ∷ []) 1
unfolding open_answer answer_numbers
opening-told = record { short = λ h. absurd (omega arith); told = λ h. record { answer = 0; says = opening; tells = record { listed = refl; count = refl } } }

defect-told : DefectTold opened_p scratch 1 1 (block_with 0) scratch five (8 ∷ 0 ∷ 0 ∷ 0 ∷ 0 ∷ []) 2
unfolding answer_numbers
defect-told =
    record {
      short = λ h. absurd (omega arith);
      told = λ h. record { answer = Node 0; says = inserted; tells = record { listed = refl; count = refl } };
    }

grow-not-made : GrowTold (block_with 0) scratch 0 (pos 1) (block_with 0) scratch [] [] 0
unfolding short_list short_count
grow-not-made = record { short = λ h. (refl, refl, (refl, refl)); told = λ h. absurd (omega arith) }

grow-refused : GrowTold (block_with 0) scratch 0 (pos 1) (block_with 0) scratch (5 ∷ 6 ∷ 7 ∷ []) (11 ∷ 1 ∷ 7 ∷ []) 2
unfolding short_list short_count answer_numbers
grow-refused = record { short = λ h. (refl, refl, (refl, refl)); told = λ h. absurd (omega arith) }

grow-told : GrowTold (block_with 0) scratch 0 (pos 2) (block_with 2) scratch five (7 ∷ 0 ∷ 0 ∷ 0 ∷ 0 ∷ []) 1
unfolding answer_numbers
grow-told = record { short = λ h. absurd (omega arith); told = λ h. record { answer = Done; says = grown; tells = record { listed = refl; count = refl } } }

node-told : ReadNodeTold (block_with 2) scratch 0 five (15 ∷ 1 ∷ 1 ∷ 0 ∷ 2 ∷ []) 5
unfolding read_node_numbers
node-told = record {
  short = λ h. absurd (omega arith);
  told = λ h. record { answer = Defect 1 1 0 2; says = node-read; tells = record { listed = refl; count = refl } };
}

table-told : TableTold (block_with 2) scratch (words (zeros 6)) (words (0 ∷ 2 ∷ 2 ∷ 0 ∷ 0 ∷ 0 ∷ [])) five (7 ∷ 0 ∷ 0 ∷ 0 ∷ 0 ∷ []) 1
unfolding answer_numbers
table-told =
    record {
      short = λ h. absurd (omega arith);
      told = λ h. record { answer = Done; says = table-read; tells = record { listed = refl; count = refl } };
    }

says-done : SaysDone five (7 ∷ 0 ∷ 0 ∷ 0 ∷ 0 ∷ [])
says-done = record { room = omega arith; first-is = refl }

abbrev host_run : HostRun 4 edges virtuals
host_run = record {
  edge_number = 3;
  node_limit = 4;
  store_limit = 40;
  before = block;
  scratch = scratch;
  edge_words = edge_words_p;
  virtual_words = words virtuals;
  virtuals-are = virtuals-given;
  first = opened_p;
  answer = five;
  answer' = 7 ∷ 0 ∷ 0 ∷ 0 ∷ 0 ∷ [];
  numbers = 1;
  opening-is = opening-told;
  done = says-done;
  exchanges = _;
  last = block_with 2;
  steps = one_more (fb-insert-defect defect-told)
      (one_more (fb-grow grow-not-made)
      (one_more (fb-grow grow-refused) (one_more (fb-grow grow-told) (one_more (fb-read-node node-told) no_more))));
  present = standing;
}

all-refused : BlossomsRefused host_run
unfolding everything_lent
all-refused = refl

dual-told : pos 2 ≡ (entry_at (host_history host_run) 0).y
dual-told =
    told-dual-is-recorded host_run all-refused scratch 0 node-told (record { room = omega arith; first-is = refl })

exported-table : words (0 ∷ 2 ∷ 2 ∷ 0 ∷ 0 ∷ 0 ∷ []) ≡ words (afresh 4 edges virtuals (host_history host_run))
exported-table =
    (demand-on-P.after-exported (λ a k. refl) host_run all-refused).table scratch (words (zeros 6)) (words (0 ∷ 2 ∷ 2 ∷ 0 ∷ 0 ∷ 0 ∷ []))
    five (7 ∷ 0 ∷ 0 ∷ 0 ∷ 0 ∷ []) 1 table-told says-done
