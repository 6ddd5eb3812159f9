-- The rows that have a variable in their terms, as the code marks them.
--     mark-true, mark-false          a truth value as a mark
--     mark-variable, mark-symbol     the mark of one row
--     marks-start, marks-next        the marks of all rows
-- Assumes nothing.
use mathlib.Core.Bool.{Bool, true, false, ◌||◌}
use mathlib.Core.List.{List, [], ◌∷◌, ◌++◌}
use mathlib.Core.Path.{◌≡◌, refl, ap, ap₂, ◌∙◌}
use Prim.Native.Nat.{ℕ, ◌+◌, ◌<◌, max}
use native.Mathlib.Omega.{arith}
use native.Mathlib.Numerals.{add-one}
use lib.Dec.{eqb}
use borrow.Author.Tests.{eqb-true, eqb-false, eq-eqb, ne_eqb}
use lib.ListN.{length, get_or, set, replicate, length-set, length-append}
use Rattle.meaning.specs.Rules.{Pattern}
use Rattle.meaning.specs.Columns.{args_at, patterns_from}
use Rattle.meaning.specs.Values.{highest}
use Rattle.meaning.specs.Pruning.{any_of, touch, touches_from, touches}
use Rattle.meaning.proofs.Built.{pattern_in}
use Rattle.columns.proofs.Flat.{pattern-at-variable, pattern-at-symbol}
use Rattle.plan.specs.Planning.{RowFit}
use Rattle.plan.specs.Plans.{mark_of}
use Rattle.plan.specs.Marks.{mark_at, Marked}
use Rattle.plan.proofs.Levels.{column-zero, column-long, column-next, ps-length}

module _ {shapes heads arities subs : List ℕ} {i : ℕ} (s : RowFit shapes heads arities subs i) (marks : List ℕ) (v r : ℕ) where
  pub mark-variable : (b : Bool) → get_or shapes i 0 ≡ 4 → b ≡ eqb (get_or heads i 0) v → r ≡ mark_of b → r ≡ mark_at shapes heads arities subs marks v i
  unfolding mark_at
  mark-variable b e p q = rw (eq-eqb (get_or shapes i 0) 4 e, mark_at) (q ∙ ap mark_of p)

  pub mark-symbol : (get_or shapes i 0 ≡ 4 → ⊥) → r ≡ highest marks (args_at arities subs i) → r ≡ mark_at shapes heads arities subs marks v i
  unfolding mark_at
  mark-symbol n q = rw (ne_eqb (get_or shapes i 0) 4 n, mark_at) q

pub mark-true : (b : Bool) → b ≡ true → 1 ≡ mark_of b
unfolding mark_of
mark-true b e = rw e

pub mark-false : (b : Bool) → b ≡ false → 0 ≡ mark_of b
unfolding mark_of
mark-false b e = rw e

either-mark : (a b : Bool) → max (mark_of a) (mark_of b) ≡ mark_of (a || b)
unfolding mark_of
either-mark true true = omega arith
either-mark true false = omega arith
either-mark false true = omega arith
either-mark false false = omega arith

highest-mark : (bs : List Bool) (marks l : List ℕ) → ((p : ℕ) → get_or marks p 0 ≡ mark_of (get_or bs p false)) → highest marks l ≡ mark_of (any_of bs l)
unfolding highest any_of mark_of
highest-mark bs marks [] f = refl
highest-mark bs marks (a ∷ l) f = ap₂ max (f a) (highest-mark bs marks l f) ∙ either-mark (get_or bs a false) (any_of bs l)

module _ (shapes heads arities subs : List ℕ) (v : ℕ) where
  mark-touch : (bs : List Bool) (marks : List ℕ) (i : ℕ) → ((p : ℕ) → get_or marks p 0 ≡ mark_of (get_or bs p false))
      → mark_at shapes heads arities subs marks v i ≡ mark_of (touch v bs (pattern_in shapes heads arities subs i))
  unfolding mark_at touch
  mark-touch bs marks i f = go (eqb (get_or shapes i 0) 4) refl
    where
      go : (b : Bool) → eqb (get_or shapes i 0) 4 ≡ b → mark_at shapes heads arities subs marks v i ≡ mark_of (touch v bs (pattern_in shapes heads arities subs i))
      go true e = rw (pattern-at-variable shapes heads arities subs i (eqb-true (get_or shapes i 0) 4 e), e, mark_at)
      go false e = rw (pattern-at-symbol shapes heads arities subs i (eqb-false (get_or shapes i 0) 4 e), e, mark_at) (highest-mark bs marks (args_at arities subs i) f)

  touches-snoc : (bs : List Bool) (ps : List Pattern) (p : Pattern) → touches_from v bs (ps ++ (p ∷ [])) ≡ touches_from v bs ps ++ (touch v (touches_from v bs ps) p ∷ [])
  unfolding touches_from
  touches-snoc bs [] p = refl
  touches-snoc bs (q ∷ ps) p = touches-snoc (bs ++ (touch v bs q ∷ [])) ps p

  touches-length : (bs : List Bool) (ps : List Pattern) → length (touches_from v bs ps) ≡ length bs + length ps
  unfolding touches_from
  touches-length bs [] = omega arith
  touches-length bs (p ∷ ps) = omega (arith, touches-length (bs ++ (touch v bs p ∷ [])) ps, length-append bs (touch v bs p ∷ []))

  pub marks-start : (marks : List ℕ) → marks ≡ replicate 64 0 → Marked (touches v (patterns_from shapes heads arities subs 0)) marks
  unfolding patterns_from touches touches_from mark_of
  marks-start marks e = record { long = column-long marks e; same = column-zero marks e }

  pub marks-next : (marks : List ℕ) (i x : ℕ) → i < 64 → Marked (touches v (patterns_from shapes heads arities subs i)) marks
      → x ≡ mark_at shapes heads arities subs marks v i → Marked (touches v (patterns_from shapes heads arities subs (i + 1))) (set marks i x)
  unfolding patterns_from touches
  marks-next marks i x h m e =
      let bs : List Bool = touches v (patterns_from shapes heads arities subs i) in
      rw (add-one i, patterns_from, touches-snoc [] (patterns_from shapes heads arities subs i) (pattern_in shapes heads arities subs i))
      (record {
        long = length-set marks i x ∙ m.long;
        same = column-next mark_of false (touch v bs (pattern_in shapes heads arities subs i)) bs marks i x
            (omega (arith, touches-length [] (patterns_from shapes heads arities subs i), ps-length shapes heads arities subs i)) (omega (arith, m.long)) m.same
            (e ∙ mark-touch bs marks i m.same);
      })
