-- Marks, as the code makes them.
--     Back   a loop from the last step to the first
--     mine   what the functions of `grounds_marks` leave to show
-- Assumes nothing.
use mathlib.Core.Bool.{true, false}
use mathlib.Core.List.{List}
use mathlib.Core.Path.{◌≡◌, refl, ap, sym, ◌∙◌, subst}
use Prim.Native.Nat.{ℕ, suc, ◌+◌, ◌-◌, ◌*◌, ◌≤◌, ◌<◌}
use native.Mathlib.Omega.{arith}
use lib.ListN.{get_or, set, replicate, length, length-replicate}
use borrow.Author.Rules.{rules}
use borrow.Author.Tests.{lt-ltb, le-ltb, eq-eqb, ne_eqb, le-leb, lt-leb}
use Rattle.grounds_laws.specs.Limits.{draft_size}
use Rattle.grounds_laws.specs.Draft.{count_in, cell_in}
use Rattle.grounds_batches.specs.Marking.{kept, noted, noted_four, mark_one, marked, marked_for}

module _ (limit r : ℕ) (marks : List ℕ) where
  pub note-in : {i : ℕ} → i ≡ r → i ≤ limit → set marks i 1 ≡ noted limit r marks
  unfolding noted
  note-in {i} e h = rw (le-leb r limit (subst (λ (x : ℕ). x ≤ limit) e h), noted) (ap (λ (x : ℕ). set marks x 1) e)

  pub note-past : {i : ℕ} → i ≡ r → limit < i → marks ≡ noted limit r marks
  unfolding noted
  note-past {i} e h = rw (lt-leb r limit (subst (λ (x : ℕ). limit < x) e h), noted)

pub note-each : (limit : ℕ) (l : List ℕ) (p : ℕ) (marks : List ℕ) {one two three four : List ℕ} → one ≡ noted limit (get_or l p 0) marks → two ≡ noted limit (get_or l (p + 1) 0) one
    → three ≡ noted limit (get_or l (p + 2) 0) two
    → four ≡ noted limit (get_or l (p + 3) 0) three
    → four ≡ noted_four limit l p marks
note-each limit l p marks e f g h = h ∙ ap (noted limit (get_or l (p + 3) 0)) (g ∙ ap (noted limit (get_or l (p + 2) 0)) (f ∙ ap (noted limit (get_or l (p + 1) 0)) e))

module _ (cells : List ℕ) (i : ℕ) (marks : List ℕ) where
  pub mark-none : get_or marks (i + 1) 0 ≡ 0 → marks ≡ mark_one cells i marks
  unfolding mark_one kept
  mark-none e = let z : kept marks (i + 1) ≡ false = rw (eq-eqb (get_or marks (i + 1) 0) 0 e) in rw (z, mark_one)

  stays : (get_or marks (i + 1) 0 ≡ 0 → ⊥) → kept marks (i + 1) ≡ true
  unfolding kept
  stays d = rw (ne_eqb (get_or marks (i + 1) 0) 0 d)

  pub mark-plain : (get_or marks (i + 1) 0 ≡ 0 → ⊥) → cell_in cells i 1 ≤ 2 → marks ≡ mark_one cells i marks
  unfolding mark_one
  mark-plain d h = rw (stays d, mark_one, le-ltb 2 (cell_in cells i 1) h)

  pub mark-cites : {after : List ℕ} → (get_or marks (i + 1) 0 ≡ 0 → ⊥) → 2 < cell_in cells i 1 → after ≡ noted_four i cells (i * draft_size + 4) marks → after ≡ mark_one cells i marks
  unfolding mark_one
  mark-cites d h e = e ∙ sym (rw (stays d, mark_one, lt-ltb 2 (cell_in cells i 1) h))

-- ---- loops

pub record Back (cells : List ℕ) (n : ℕ) (start marks : List ℕ) (left : ℕ) : Type 0 where
  pub so : marked cells n start ≡ marked cells left marks
  pub reach : left ≤ n
  pub long : length marks ≡ length start

pub back_start : (cells : List ℕ) (n : ℕ) (marks : List ℕ) → Back cells n marks marks n
back_start cells n marks = record { so = refl; reach = omega arith; long = refl }

module _ {cells : List ℕ} {n : ℕ} {start marks : List ℕ} {left : ℕ} (w : Back cells n start marks left) where
  pub back-next : {after : List ℕ} → 0 < left → after ≡ mark_one cells (left - 1) marks → length after ≡ length marks → Back cells n start after (left - 1)
  unfolding marked
  back-next h e l =
      let z : left ≡ suc (left - 1) = omega arith in
      record {
        so = w.so ∙ ap (λ (i : ℕ). marked cells i marks) z ∙ ap (marked cells (left - 1)) (sym e);
        reach = omega (arith, w.reach);
        long = l ∙ w.long;
      }

  pub back-marks : 0 < left → n < length start → left - 1 + 1 < length marks
  back-marks h l = omega (arith, w.reach, w.long)

  pub back-cells : 0 < left → n * draft_size < length cells → (left - 1) * draft_size + draft_size < length cells
  back-cells h l = omega (arith, w.reach)

  pub back_done : left ≤ 0 → marks ≡ marked cells n start
  unfolding marked
  back_done h = let z : left ≡ 0 = omega arith in sym (w.so ∙ ap (λ (i : ℕ). marked cells i marks) z)

pub back_long : {cells : List ℕ} {n : ℕ} {start marks : List ℕ} {left : ℕ} → Back cells n start marks left → length marks ≡ length start
back_long w = w.long

pub mark-all : (cells : List ℕ) (s : ℕ) {count : ℕ} {start mid after : List ℕ} → start ≡ replicate (count_in cells + 1) 0 → count ≡ count_in cells → mid ≡ noted count s start
    → after ≡ marked cells count mid
    → after ≡ marked_for cells s
unfolding marked_for
mark-all cells s {count} z e f g =
    g ∙ ap (marked cells count) (f ∙ ap (noted count s) z) ∙ ap (λ (i : ℕ). marked cells i (noted i s (replicate (count_in cells + 1) 0))) e

module _ (cells marks : List ℕ) (z : marks ≡ replicate (count_in cells + 1) 0) {count : ℕ} (e : count ≡ count_in cells) where
  pub mark-places : count < length marks
  mark-places = omega (arith, ap length z, length-replicate {A = ℕ} (count_in cells + 1) 0)

  pub mark-cells : count_in cells * draft_size < length cells → count * draft_size < length cells
  mark-cells h = omega arith

pub mark-first : (cells : List ℕ) → count_in cells * draft_size < length cells → 0 < length cells
mark-first cells h = omega arith

pub ruleset mine = (
  rules,
  note-in,
  note-past,
  note-each,
  mark-none,
  mark-plain,
  mark-cites,
  back_start,
  back-next,
  back-marks,
  back-cells,
  back_done,
  back_long,
  mark-all,
  mark-places,
  mark-cells,
  mark-first,
)
