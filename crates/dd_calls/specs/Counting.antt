-- What the answers of a run count up to: each count is plainly one over the list of them.
use Rattle.std.specs.Prelude.{ℕ, ◌+◌, ◌^◌, ◌<◌, Bool, false, cond, List, length, count_by, sum_by, is_some}
use Rattle.dd_calls.specs.declared.answers.Answer.{Answer}
use Rattle.dd_calls.specs.declared.counting.Counts.{Counts}
use Rattle.dd_calls.specs.Parts.{number_in, is_frame, of_frame, refusal_in}

-- ---- what one answer counts as

-- a frame whose dirty rectangles were rounded
abbrev pub is_coalesced : Answer → Bool
is_coalesced = of_frame false (λ f. f.info.coalesced)

-- it tells of an entry of the list
abbrev pub is_entry : Answer → Bool
is_entry a = is_some (number_in a)

abbrev pub is_refusal : Answer → Bool
is_refusal a = is_some (refusal_in a)

-- the presents, the moves and the dirty rectangles that a frame tells of; any other answer tells of none
abbrev pub presents_counted : Answer → ℕ
presents_counted = of_frame 0 (λ f. f.info.accumulated)

abbrev pub moves_counted : Answer → ℕ
moves_counted = of_frame 0 (λ f. length f.moves)

abbrev pub rects_counted : Answer → ℕ
rects_counted = of_frame 0 (λ f. length f.dirt)

-- ---- the counts of all answers

unfoldable pub counts_of : List Answer → Counts
counts_of told =
    record {
      acquired = count_by is_frame told;
      coalesced = count_by is_coalesced told;
      entries = count_by is_entry told;
      frames = sum_by presents_counted told;
      moves = sum_by moves_counted told;
      rects = sum_by rects_counted told;
      refused = count_by is_refusal told;
      steps = length told;
    }

-- one more where it holds
abbrev pub one_if : Bool → ℕ
one_if holds = cond holds 1 0

-- counts with one answer more
unfoldable pub counted : Counts → Answer → Counts
counted c a =
    record {
      acquired = c.acquired + one_if (is_frame a);
      coalesced = c.coalesced + one_if (is_coalesced a);
      entries = c.entries + one_if (is_entry a);
      frames = c.frames + presents_counted a;
      moves = c.moves + moves_counted a;
      rects = c.rects + rects_counted a;
      refused = c.refused + one_if (is_refusal a);
      steps = c.steps + 1;
    }

-- each count is a number of 64 bits
pub record CountsFit (c : Counts) : Type 0 where
  pub acquired : c.acquired < 2 ^ 64
  pub coalesced : c.coalesced < 2 ^ 64
  pub entries : c.entries < 2 ^ 64
  pub frames : c.frames < 2 ^ 64
  pub moves : c.moves < 2 ^ 64
  pub rects : c.rects < 2 ^ 64
  pub refused : c.refused < 2 ^ 64
  pub steps : c.steps < 2 ^ 64
