-- Counting the clashes of a symbol decides refusal 7.
--     clash-other, clash-same         one symbol
--     Counted, count-start ..         the count, one more at a time
--     used_start, used-row, used-symbol   what is noted serves after a line with a symbol
--     used-same                       and after any other line
-- Assumes nothing.
use mathlib.Core.Bool.{Bool, true, false, not, ◌&&◌, ◌||◌, cond}
use mathlib.Core.List.{List, [], ◌∷◌, ◌++◌}
use mathlib.Core.Path.{◌≡◌, refl, sym, ap, ◌∙◌}
use Prim.Native.Nat.{ℕ, zero, suc, ◌+◌, ◌≤◌, ◌<◌}
use native.Mathlib.Numerals.{add-one}
use native.Mathlib.Omega.{arith}
use lib.Dec.{eqb}
use lib.ListN.{length, get_or, set}
use lib.Seq.{get_or-set_same, get_or-set_other}
use mir.Syntax.{w64}
use mir.Val.{Fits, bool_byte}
use borrow.Author.Rules.{rules}
use borrow.Author.Tests.{ne_eqb, eq-eqb, eqb-true, eqb-false}
use Rattle.meaning.specs.Context.{Row}
use Rattle.meaning.specs.Rules.{Pattern, variable, apply}
use Rattle.meaning.specs.Text.{Read, nothing_read, row, pattern, put, put_context, put_clause, rows_of, patterns_of, rows_agree, patterns_agree, counts_agree}
use Rattle.text_reader.specs.Agree.{clash_of, clashes_in, Noted, Used}

module _ (g m f k c : ℕ) (b : Bool) (e : c ≡ bool_byte b) where
  pub clash-other : (g ≡ f → ⊥) → b ≡ eqb g f → c ≡ clash_of g m f k
  unfolding clash_of
  clash-other h i = rw (e, i, ne_eqb _ _ h)

  pub clash-same : g ≡ f → b ≡ not (eqb m k) → c ≡ clash_of g m f k
  unfolding clash_of
  clash-same h i = rw (e, i, eq-eqb _ _ h) (go (eqb m k))
    where
      go : (t : Bool) → bool_byte (not t) ≡ cond t 0 1
      go true = refl
      go false = refl

clash-small : (g m f k : ℕ) → clash_of g m f k ≤ 1
unfolding clash_of
clash-small g m f k = go (eqb g f) (eqb m k)
  where
    go : (s t : Bool) → cond s (cond t 0 1) 0 ≤ 1
    go true true = omega arith
    go true false = omega arith
    go false t = omega arith

-- the clashes among the first i of n
pub record Counted (symbols counts : List ℕ) (f k n i r : ℕ) : Type 0 where
  pub inside : i ≤ n
  pub small : r ≤ i
  pub sum : r ≡ clashes_in symbols counts f k i

module _ (symbols counts : List ℕ) (f k n : ℕ) where
  pub count-start : Counted symbols counts f k n 0 0
  unfolding clashes_in
  count-start = record { inside = omega arith; small = omega arith; sum = refl }

  module _ (i r : ℕ) (c : Counted symbols counts f k n i r) where
    pub count-done : n ≤ i → r ≡ clashes_in symbols counts f k n
    count-done h = let e : i ≡ n = omega (arith, c.inside) in c.sum ∙ ap (clashes_in symbols counts f k) e

    module _ (x : ℕ) (h : i < n) (e : x ≡ clash_of (get_or symbols i 0) (get_or counts i 0) f k) where
      x-small : x ≤ 1
      x-small = rw e (clash-small (get_or symbols i 0) (get_or counts i 0) f k)

      pub count-step : Counted symbols counts f k n (i + 1) (r + x)
      unfolding clashes_in
      count-step =
          record { inside = omega arith; small = omega (arith, c.small, x-small); sum = rw (add-one i, ← e) (ap (λ (y : ℕ). y + x) c.sum) }

      pub count-fit : Noted symbols counts n → Fits w64 (length symbols) → Fits w64 (r + x)
      count-fit m w = omega (arith, c.small, x-small, m.symbols)

-- ---- one more is noted

sum-none : (a b : ℕ) → eqb (a + b) 0 ≡ eqb a 0 && eqb b 0
sum-none a b = go (eqb a 0) refl (eqb b 0) refl
  where
    go : (s : Bool) → eqb a 0 ≡ s → (t : Bool) → eqb b 0 ≡ t → eqb (a + b) 0 ≡ s && t
    go true e true f = let x = eqb-true a 0 e in let y = eqb-true b 0 f in eq-eqb (a + b) 0 (omega arith)
    go true e false f = let y = eqb-false b 0 f in ne_eqb (a + b) 0 (λ h. y (omega arith))
    go false e t f = let x = eqb-false a 0 e in ne_eqb (a + b) 0 (λ h. x (omega arith))

clash-none : (g m f k : ℕ) → eqb (clash_of g m f k) 0 ≡ not (eqb g f) || eqb m k
unfolding clash_of
clash-none g m f k = go (eqb g f) (eqb m k)
  where
    go : (s t : Bool) → eqb (cond s (cond t 0 1) 0) 0 ≡ not s || t
    go true true = refl
    go true false = refl
    go false t = refl

and_assoc : (a b c : Bool) → (a && b) && c ≡ a && (b && c)
and_assoc true b c = refl
and_assoc false b c = refl

and_comm : (a b : Bool) → a && b ≡ b && a
and_comm true true = refl
and_comm true false = refl
and_comm false true = refl
and_comm false false = refl

and-true : (a : Bool) → a && true ≡ a
and-true true = refl
and-true false = refl

-- what stands past the first n does not count
clashes-set : (symbols counts : List ℕ) (f k m x y : ℕ) (n : ℕ) → n ≤ m → clashes_in (set symbols m x) (set counts m y) f k n ≡ clashes_in symbols counts f k n
unfolding clashes_in
clashes-set symbols counts f k m x y zero h = refl
clashes-set symbols counts f k m x y (suc n) h =
    rw (
      clashes-set symbols counts f k m x y n (omega arith),
      get_or-set_other symbols m n x 0 (λ e. omega arith),
      get_or-set_other counts m n y 0 (λ e. omega arith),
    )

module _ (symbols counts : List ℕ) (n : ℕ) where
  module _ (x y : ℕ) (a : n < length symbols) (b : n < length counts) where
    noted-none : (f k : ℕ) → eqb (clashes_in (set symbols n x) (set counts n y) f k (n + 1)) 0
        ≡ eqb (clashes_in symbols counts f k n) 0 && (not (eqb x f) || eqb y k)
    unfolding clashes_in
    noted-none f k =
        rw (
          add-one n,
          get_or-set_same symbols n x 0 a,
          get_or-set_same counts n y 0 b,
          clashes-set symbols counts f k n x y n (omega arith),
          sum-none,
          clash-none,
        )

module _ (f k : ℕ) where
  rows_snoc : (l : List Row) (r : Row) → rows_agree f k (l ++ (r ∷ [])) ≡ rows_agree f k l && (not (eqb r.symbol f) || eqb (length r.args) k)
  unfolding rows_agree
  rows_snoc [] r = and-true (not (eqb r.symbol f) || eqb (length r.args) k)
  rows_snoc (a ∷ l) r =
      rw (rows_snoc l r)
      (sym (and_assoc (not (eqb a.symbol f) || eqb (length a.args) k) (rows_agree f k l) (not (eqb r.symbol f) || eqb (length r.args) k)))

  patterns-snoc : (l : List Pattern) (p : Pattern) → patterns_agree f k (l ++ (p ∷ [])) ≡ patterns_agree f k l && patterns_agree f k (p ∷ [])
  unfolding patterns_agree
  patterns-snoc [] p = refl
  patterns-snoc (variable v ∷ l) p = patterns-snoc l p
  patterns-snoc (apply g a ∷ l) p =
      rw (patterns-snoc l p) (sym (and_assoc (not (eqb g f) || eqb (length a) k) (patterns_agree f k l) (patterns_agree f k (p ∷ []))))

  row_last : (s : Read) (r : Row) → counts_agree f k (put (row r) s) ≡ counts_agree f k s && (not (eqb r.symbol f) || eqb (length r.args) k)
  unfolding put put_context put_clause
  row_last s r =
      let a : Bool = rows_agree f k (rows_of s) in
      let b : Bool = not (eqb r.symbol f) || eqb (length r.args) k in
      let c : Bool = patterns_agree f k (patterns_of s) in
      rw (rows_snoc (rows_of s) r) (and_assoc a b c ∙ ap (λ (x : Bool). a && x) (and_comm b c) ∙ sym (and_assoc a c b))

  symbol-last : (s : Read) (g : ℕ) (a : List ℕ) → counts_agree f k (put (pattern (apply g a)) s) ≡ counts_agree f k s && (not (eqb g f) || eqb (length a) k)
  unfolding put put_context put_clause patterns_agree
  symbol-last s g a =
      let x : Bool = rows_agree f k (rows_of s) in
      let y : Bool = patterns_agree f k (patterns_of s) in
      let z : Bool = not (eqb g f) || eqb (length a) k in
      rw (patterns-snoc (patterns_of s) (apply g a)) (rw (and-true z) (sym (and_assoc x y z)))

pub used_start : (symbols counts : List ℕ) → Used symbols counts 0 nothing_read
unfolding clashes_in rows_agree patterns_agree
used_start symbols counts = record { agree = λ f k. refl }

module _ (symbols counts : List ℕ) (n : ℕ) (s : Read) (u : Used symbols counts n s) where
  module _ (x y : ℕ) (a : n < length symbols) (b : n < length counts) where
    pub used-row : (r : Row) → r.symbol ≡ x → length r.args ≡ y → Used (set symbols n x) (set counts n y) (n + 1) (put (row r) s)
    used-row r e g = record { agree = λ f k. noted-none symbols counts n x y a b f k ∙ rw (u.agree f k) (sym (row_last f k s r ∙ rw (e, g))) }

    pub used-symbol : (h : ℕ) (l : List ℕ) → h ≡ x → length l ≡ y → Used (set symbols n x) (set counts n y) (n + 1) (put (pattern (apply h l)) s)
    used-symbol h l e g = record { agree = λ f k. noted-none symbols counts n x y a b f k ∙ rw (u.agree f k) (sym (symbol-last f k s h l ∙ rw (e, g))) }

  pub used-same : (t : Read) → rows_of t ≡ rows_of s → patterns_of t ≡ patterns_of s → Used symbols counts n t
  used-same t e g = record { agree = λ f k. u.agree f k ∙ sym (rw (e, g)) }

  pub used-variable : (v : ℕ) → Used symbols counts n (put (pattern (variable v)) s)
  unfolding put put_context put_clause patterns_agree
  used-variable v =
      record { agree = λ f k. u.agree f k ∙ sym (rw (patterns-snoc f k (patterns_of s) (variable v), and-true (patterns_agree f k (patterns_of s)))) }

pub ruleset mine = (rules, clash-other, clash-same, count-start, count-step, count-fit, count-done)
