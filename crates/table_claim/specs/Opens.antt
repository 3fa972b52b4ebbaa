-- A name that opens all definitions of this crate and of those below: under `unfolding everything` a closed term computes.
use Rattle.std.specs.Prelude.{ℕ}
use Rattle.graph.specs.Word
use Rattle.graph.specs.Rows
use Rattle.graph.specs.Layout
use Rattle.graph.specs.Opening
use Rattle.pass.specs.Scratch
use Rattle.dual_module.specs.Called
use Rattle.round_list.specs.Asked
use Rattle.dual_module_round.specs.Called as Trial
use Rattle.records.specs.Opens as Records
use Rattle.table_theorem.specs.Opens as Table
use Rattle.table_claim.specs.Run
use Rattle.table_claim.specs.Input
use Rattle.table_claim.specs.Reading
use Rattle.table_claim.specs.Tables
use Rattle.table_claim.specs.Hosted
use Rattle.table_claim.specs.Carried

unfoldable pub everything : ℕ
unfolding Records.everything Table.everything Input.records_by Input.records_in Input.edges_of_records Input.virtuals_in
    Input.calls_in Input.gathered_with Input.graph_in Input.gives Input.asks Input.in_order Input.opens Input.stage_from
    Input.lines_by Input.stands_behind Input.earlier Input.printed Input.later Reading.is_digit Reading.read_on
    Reading.behind_space Reading.number_at Reading.growths_in Reading.in_front Reading.text_lines Tables.table_lines
    Tables.fit_count Carried.is_defect_at Carried.carried_from Carried.carried
everything = 0

-- the same, and what the words of a block say
unfoldable pub everything_lent : ℕ
unfolding Table.everything Word.to_nat Word.word_at Rows.rows Rows.offset Layout.rows_of Layout.class_from Layout.stretches
    Layout.overgrown_from Layout.stack_from Layout.boundaries Layout.stacks Layout.state_from Layout.state_of Layout.sized
    Layout.rising_to Layout.fits_at Layout.packed_from Layout.packed Layout.block_sound Layout.memory_fits Layout.block_refusal
    Layout.memory_refusal Layout.list_refusal Opening.given_at Opening.edge_at Opening.edges_from Opening.virtuals_from
    Opening.fits Opening.flattened Opening.first_of Opening.opened_rows Opening.opened_words Opening.opened_block
    Scratch.zero_scratch Called.defect_writes Called.grow_writes Called.prepare_writes Trial.trial_refusal
    Trial.group_trial_refusal Trial.below_one Trial.round_refusal Asked.entry_numbers Asked.entry_words Asked.listed_from
    Run.fed_one Run.fed Run.returned Run.returned_from Run.answer_in Run.recorded_by Run.history_by Hosted.made
    Carried.is_defect_at Carried.carried_from Carried.carried
everything_lent = 0
