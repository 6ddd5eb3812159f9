-- The closing of each width: a table of w places, of which the first n are lent and the others keep their own numbers.
--     room, counted, numbered      the part that is lent
--     laid, fit                    what is closed
--     fitted, closed               the answer that closes
--     unfit, own-numbers           the answer that does not
-- Assumes nothing.
use mathlib.Core.Bool.{Bool, true, false}
use mathlib.Core.List.{List, ◌++◌}
use mathlib.Core.Path.{◌≡◌, sym, ap, ◌∙◌, subst}
use Prim.Native.Nat.{ℕ, ◌+◌, ◌-◌, ◌≤◌, ◌<◌}
use native.Mathlib.Omega.{arith}
use borrow.Author.Rules.{rules}
use lib.ListN.{length, take, drop, length-append, length-take, length-drop, get_or-append}
use lib.Seq.{ext_get_or, get_or-take, get_or-drop, get_or-append-add}
use Rattle.meaning.specs.Formed.{Fit}
use Rattle.meaning.specs.Equality.{rep_at, Lowest, Promise}
use Rattle.meaning.specs.Closing.{count}
use Rattle.meaning.proofs.Closes.{length-count, rep_at-count}
use Rattle.runs.specs.Limits.{most_rows}
use Rattle.runs.specs.Runs.{row_count, context_of}
use Rattle.runs.specs.Fit.{Decides, FitContext}
use Rattle.runs.proofs.Deciding.{decides_not}
use Rattle.runs.proofs.Saying.{length-rows}
use Rattle.classes.specs.Claims.{Own}
use Rattle.classes.specs.Steps.{Laid}

own_at : (w i : ℕ) → i < w → rep_at (count w 0) i ≡ i
own_at w i h = omega (arith, rep_at-count w 0 i h)

take_own : (w n : ℕ) → n ≤ w → take n (count w 0) ≡ count n 0
take_own w n h =
    ext_get_or 0 (take n (count w 0)) (count n 0) (long ∙ sym (length-count n 0))
    (λ i l. get_or-take n (count w 0) i 0 (omega (arith, long)) ∙ own_at w i (omega (arith, long)) ∙ sym (own_at n i (omega (arith, long))))
  where
    long : length (take n (count w 0)) ≡ n
    long = omega (arith, length-take n (count w 0), length-count w 0)

module _ {w m : ℕ} {rows said : List ℕ} {r : Bool} (d : Decides r (FitContext w m rows said)) {own : List ℕ} (eo : own ≡ count w 0) where
  module _ (e : r ≡ true) {n : ℕ} (en : n ≡ row_count rows) where
    few : n ≤ w
    few = omega (arith, (d.holds e).rows_few)

    pub room : n ≤ length own
    room = omega (arith, ap length eo, length-count w 0, few)

    pub counted : n ≡ length (take n own)
    counted = omega (arith, length-take n own, room)

    pub numbered : take n own ≡ count (row_count rows) 0
    numbered = ap (take n) eo ∙ take_own w n few ∙ ap (λ (k : ℕ). count k 0) en

    pub laid : w ≤ most_rows → Laid rows
    laid h = record { room = omega (arith, (d.holds e).rows_few); few = (d.holds e).counts-few }

    pub fit : Fit (context_of rows said)
    fit = (d.holds e).fit

    pub fitted : FitContext w m rows said
    fitted = d.holds e

    pub closed : (t : List ℕ) → Promise (context_of rows said) (row_count rows) t → Promise (context_of rows said) w (t ++ drop n own)
    closed t p =
        record {
          long = omega (arith, length-append t (drop n own), length-drop n own, ap length eo, length-count w 0, p.long, few);
          rows = λ i h.
              subst (Lowest (context_of rows said) i) (sym (get_or-append t (drop n own) 0 i (omega (arith, p.long, length-rows rows)))) (p.rows i h);
          others = past;
        }
      where
        past : (i : ℕ) → length (context_of rows said).rows ≤ i → i < w → rep_at (t ++ drop n own) i ≡ i
        past i h l =
            let k : i ≡ length t + (i - n) = omega (arith, p.long, length-rows rows) in
            let j : n + (i - n) ≡ i = omega (arith, length-rows rows) in
            ap (rep_at (t ++ drop n own)) k
            ∙ get_or-append-add t (drop n own) (i - n) 0
            ∙ get_or-drop n own (i - n) 0
            ∙ ap (rep_at own) j
            ∙ ap (λ (x : List ℕ). rep_at x i) eo
            ∙ own_at w i l

  pub unfit : r ≡ false → FitContext w m rows said → ⊥
  unfit = decides_not d

  pub own-numbers : Own w own
  own-numbers = rw eo (record { long = length-count w 0; own = own_at w })

pub ruleset mine = (rules, room, counted, numbered, laid, fit, fitted, closed, unfit, own-numbers)
