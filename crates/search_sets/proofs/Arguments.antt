-- The arguments of a row: whether all are known, and whether all are fixed.
--     ArgTo, pattern-row .. place-room   an argument, and where its words stand
--     KnownTo, known_start .. known-to   whether all are known
--     single-by                  one member at most
--     fixed-outside, fixed-inside, FixedTo, fixed-start .. fixed-to   whether one is fixed; whether all are
-- Assumes nothing.
use mathlib.Core.Bool.{Bool, true, false, not}
use mathlib.Core.List.{List}
use mathlib.Core.Path.{◌≡◌, refl, ap, sym, ◌∙◌, subst}
use Prim.Native.Nat.{ℕ, ◌+◌, ◌*◌, ◌≤◌, ◌<◌}
use native.Mathlib.Omega.{arith}
use native.Mathlib.Decide.{dec_lt}
use borrow.Author.Rules.{rules}
use borrow.Author.Tests.{eqb-true, eqb-false}
use lib.Dec.{eqb}
use lib.ListN.{get_or}
use Rattle.meaning.proofs.Logic.{false-true}
use Rattle.std.specs.Prelude.{Option, None, Some}
use Rattle.std.specs.Option.{is_some}
use Rattle.bits.specs.Sets.{bit_at, has, NoneFrom, First, Next}
use Rattle.runs.specs.Limits.{arg_places}
use Rattle.runs.specs.Runs.{pattern_count, pattern_count_in, pattern_arg_in}
use Rattle.search_sets.specs.Places.{known_at, outside_at}
use Rattle.search_sets.specs.Words.{Single}
use Rattle.search_sets.specs.Rising.{PatternAsk, KnownArgs, FixedArg, FixedAt, FixedArgs}
use Rattle.search_sets.proofs.Changed.{sets-apart}
use Rattle.search_sets.proofs.Symbols.{not-false}

-- ---- what is asked

-- argument k of n
pub record ArgTo (patterns : List ℕ) (p n k : ℕ) : Type 0 where
  pub all : n ≡ pattern_count_in patterns p
  pub within : k ≤ n

pub pattern-row : (patterns : List ℕ) (size width p : ℕ) → PatternAsk patterns size width p → p < pattern_count patterns
pattern-row patterns size width p h = h.row.row

pub flags-place : (count c width t : ℕ) → c ≡ count → t ≡ (c + 4) * width → t ≡ (count + 4) * width
flags-place count c width t e f = f ∙ ap (λ (n : ℕ). (n + 4) * width) e

module _ (patterns : List ℕ) (size width p n k : ℕ) (h : PatternAsk patterns size width p) (t : ArgTo patterns p n k) (l : k < n) where
  pub place-few : k < arg_places
  place-few = omega (arith, t.all, h.args.few)

  place-earlier : pattern_arg_in patterns p k < p
  place-earlier = h.args.earlier.each k (omega (arith, t.all))

  pub place-bit : (a : ℕ) → a ≡ pattern_arg_in patterns p k → a < 64
  place-bit a e = omega (arith, e, place-earlier, h.row.row, h.row.room.few)

  pub place_set : (a : ℕ) → a ≡ pattern_arg_in patterns p k → a < 69
  place_set a e = omega (arith, place-bit a e)

  pub place-room : (a b : ℕ) → a ≡ pattern_arg_in patterns p k → b ≡ a * width → b + width ≤ size
  place-room a b e f = omega (arith, f, h.row.room.long, sets-apart width a (pattern_count patterns + 4) (omega (arith, e, place-earlier, h.row.row)))

-- ---- whether all are known

pub record KnownTo (patterns sets : List ℕ) (width p n k : ℕ) : Type 0 where
  pub to : ArgTo patterns p n k
  pub known : (j : ℕ) → j < k → bit_at (get_or sets (known_at (pattern_count patterns) width) 0) (pattern_arg_in patterns p j) ≡ true

pub known_start : (patterns sets : List ℕ) (width p n k : ℕ) → n ≡ pattern_count_in patterns p → k ≡ 0 → KnownTo patterns sets width p n k
known_start patterns sets width p n k e z = record { to = record { all = e; within = omega arith }; known = λ j h. absurd (omega arith) }

pub known-turn : (patterns sets : List ℕ) (width p n k m a t : ℕ) (r : Bool) → KnownTo patterns sets width p n k → t ≡ known_at (pattern_count patterns) width → a ≡ pattern_arg_in patterns p k
    → r ≡ bit_at (get_or sets t 0) a → not r ≡ false → k < n → m ≡ k + 1 → KnownTo patterns sets width p n m
known-turn patterns sets width p n k m a t r f et ea er z l em =
    record { to = record { all = f.to.all; within = omega arith }; known = λ j h. go j h (eqb j k) refl }
  where
    go : (j : ℕ) → j < m → (b : Bool) → eqb j k ≡ b → bit_at (get_or sets (known_at (pattern_count patterns) width) 0) (pattern_arg_in patterns p j) ≡ true
    go j h true e =
        let y : j ≡ k = eqb-true j k e in
        ap (λ (x : ℕ). bit_at (get_or sets (known_at (pattern_count patterns) width) 0) (pattern_arg_in patterns p x)) y
        ∙ ap (λ (x : ℕ). bit_at (get_or sets x 0) (pattern_arg_in patterns p k)) (sym et)
        ∙ ap (bit_at (get_or sets t 0)) (sym ea)
        ∙ sym er
        ∙ not-false r z
    go j h false e = f.known j (omega (arith, eqb-false j k e))

pub known-end : (patterns sets : List ℕ) (width p n k : ℕ) → KnownTo patterns sets width p n k → n ≤ k → KnownArgs patterns sets width p (pattern_count_in patterns p) true
known-end patterns sets width p n k f l = record { known = λ _ j h. f.known j (omega (arith, f.to.all)) }

pub known-not : (patterns sets : List ℕ) (width p n : ℕ) → KnownArgs patterns sets width p n false
known-not patterns sets width p n = record { known = λ e. false-true e refl }

pub known-to : (patterns sets : List ℕ) (width p n k : ℕ) → KnownTo patterns sets width p n k → ArgTo patterns p n k
known-to patterns sets width p n k f = f.to

-- ---- one member at most

pub single-none : (sets : List ℕ) (base n : ℕ) → NoneFrom sets base n 0 → Single sets base n true
single-none sets base n none = record { one = λ _ x y hx hy tx ty. false-true tx (none.none x (omega arith) hx) }

pub single-by : (sets : List ℕ) (base n f : ℕ) (r : Option ℕ) (b : Bool) → First sets base n 0 f → Next sets base n (f + 1) r → is_some r ≡ not b → Single sets base n b
single-by sets base n f (Some k) b low next z = record { one = λ e. false-true refl (rw e at z) }
single-by sets base n f None b low next z = record { one = λ _ x y hx hy tx ty. at x hx tx ∙ sym (at y hy ty) }
  where
    at : (x : ℕ) → x < n * 64 → has sets base x ≡ true → x ≡ f
    at x h t = omega (arith, below (dec_lt x f), above (dec_lt f x))
      where
        below : Dec (x < f) → f ≤ x
        below (yes l) = false-true t (low.first x (omega arith) l)
        below (no l) = omega arith

        above : Dec (f < x) → x ≤ f
        above (yes l) = false-true t (next.none x (omega arith) h)
        above (no l) = omega arith

pub fixed-outside : (sets : List ℕ) (at base width a : ℕ) → FixedAt sets at base width a false
fixed-outside sets at base width a = record { inside = λ e. false-true e refl; one = record { one = λ e. false-true e refl } }

pub fixed-inside : (sets : List ℕ) (at base width a : ℕ) (m r : Bool) → m ≡ bit_at (get_or sets at 0) a → m ≡ false → Single sets base width r → FixedAt sets at base width a r
fixed-inside sets at base width a m r e f s = record { inside = λ _. sym e ∙ f; one = s }

-- ---- whether all are fixed

pub record FixedTo (patterns sets : List ℕ) (width p n k : ℕ) : Type 0 where
  pub to : ArgTo patterns p n k
  pub fixed : (j : ℕ) → j < k → FixedArg sets (pattern_count patterns) width (pattern_arg_in patterns p j)

pub fixed-start : (patterns sets : List ℕ) (width p n k : ℕ) → n ≡ pattern_count_in patterns p → k ≡ 0 → FixedTo patterns sets width p n k
fixed-start patterns sets width p n k e z = record { to = record { all = e; within = omega arith }; fixed = λ j h. absurd (omega arith) }

pub fixed-turn : (patterns sets : List ℕ) (width p n k m a b t u : ℕ) (r : Bool) → FixedTo patterns sets width p n k → t ≡ known_at (pattern_count patterns) width → u ≡ t + 1
    → a ≡ pattern_arg_in patterns p k → b ≡ a * width → FixedAt sets u b width a r → not r ≡ false → k < n → m ≡ k + 1 → FixedTo patterns sets width p n m
fixed-turn patterns sets width p n k m a b t u r f et eu ea eb s z l em =
    record { to = record { all = f.to.all; within = omega arith }; fixed = λ j h. go j h (eqb j k) refl }
  where
    place : u ≡ outside_at (pattern_count patterns) width
    place = eu ∙ ap (λ (x : ℕ). x + 1) et

    here : FixedArg sets (pattern_count patterns) width a
    here =
        record {
          inside = ap (λ (x : ℕ). bit_at (get_or sets x 0) a) (sym place) ∙ s.inside (not-false r z);
          one = record { one = λ _. rw eb at (s.one.one (not-false r z)) };
        }

    go : (j : ℕ) → j < m → (d : Bool) → eqb j k ≡ d → FixedArg sets (pattern_count patterns) width (pattern_arg_in patterns p j)
    go j h true e = subst (FixedArg sets (pattern_count patterns) width) (ea ∙ ap (pattern_arg_in patterns p) (sym (eqb-true j k e))) here
    go j h false e = f.fixed j (omega (arith, eqb-false j k e))

pub fixed-end : (patterns sets : List ℕ) (width p n k : ℕ) → FixedTo patterns sets width p n k → n ≤ k → FixedArgs patterns sets width p (pattern_count_in patterns p) true
fixed-end patterns sets width p n k f l = record { fixed = λ _ j h. f.fixed j (omega (arith, f.to.all)) }

pub fixed-not : (patterns sets : List ℕ) (width p n : ℕ) → FixedArgs patterns sets width p n false
fixed-not patterns sets width p n = record { fixed = λ e. false-true e refl }

pub fixed-to : (patterns sets : List ℕ) (width p n k : ℕ) → FixedTo patterns sets width p n k → ArgTo patterns p n k
fixed-to patterns sets width p n k f = f.to

pub ruleset mine = (rules, pattern-row, flags-place, place-few, place-bit, place_set, place-room, known_start, known-turn, known-end, known-not, known-to, single-none, single-by, fixed-outside, fixed-inside, fixed-start, fixed-turn, fixed-end, fixed-not, fixed-to)
