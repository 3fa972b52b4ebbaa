-- A name that opens all definitions of this crate and of those below: under `unfolding everything` a closed term computes.
use Rattle.std.specs.Prelude.{ℕ}
use Rattle.answers.specs.Opens as Answers
use Rattle.update_length.specs.Scan

unfoldable pub everything : ℕ
unfolding Answers.everything Scan.half Scan.is_zero Scan.lesser Scan.gap_of Scan.look_peer Scan.look_free Scan.look_held
    Scan.look_grow Scan.look_shrink Scan.look Scan.with_look Scan.scan_step Scan.is_empty Scan.scan_answer
    Scan.scan_boundary Scan.meets_peer Scan.meet Scan.stop_step Scan.stop_with Scan.stop_answer Scan.shrink_limit
    Scan.scan
everything = 0
