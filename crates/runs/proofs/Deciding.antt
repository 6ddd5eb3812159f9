-- Answers that are true exactly when something holds, and loops that look at each place in turn.
--     decides-true, decides-false        an answer that is known
--     decides_not, decides-one           what a false answer says; two answers are equal
--     every-none .. every-done           nothing so far, one place more, and the loop's two answers
--     checked-start .. checked-done      the same of a loop whose bound is a count that was read
--     placed-many .. symbol-decides      the answers of each test
-- Assumes nothing.
use mathlib.Core.Bool.{Bool, true, false, not}
use mathlib.Core.Path.{◌≡◌, refl, sym, ◌∙◌}
use mathlib.Core.List.{List}
use Prim.Native.Nat.{ℕ, ◌+◌, ◌*◌, ◌≤◌, ◌<◌}
use native.Mathlib.Omega.{arith}
use borrow.Author.Rules.{rules}
use borrow.Author.Count.{below_more}
use borrow.Author.Tests.{not-true, not-false}
use lib.ListN.{get_or}
use Rattle.runs.specs.Limits.{most_variables, pattern_size, arg_places}
use Rattle.runs.specs.Runs.{left_in, right_in, pattern_kind_in, head_in, pattern_count_in}
use Rattle.runs.specs.Fit.{Decides, Every, Earlier, PlacedAt, NamedAt, PatternAt}

pub decides-true : {P : Type 0} → P → Decides true P
decides-true p = record { holds = λ _. p; sure = λ _. refl }

never : {P : Type 0} → false ≡ true → P
never e = absurd (let z : ◌≡◌ {A = ℕ} 0 1 = cc in omega arith)

pub decides-false : {P : Type 0} → (P → ⊥) → Decides false P
decides-false n = record { holds = never; sure = λ p. absurd (n p) }

pub decides_not : {r : Bool} {P : Type 0} → Decides r P → r ≡ false → P → ⊥
decides_not d e p = let t : true ≡ false = cc (d.sure p) in let z : ◌≡◌ {A = ℕ} 0 1 = cc in omega arith

pub decides-one : {P : Type 0} (r s : Bool) → Decides r P → Decides s P → r ≡ s
decides-one true s d e = sym (e.sure (d.holds refl))
decides-one false true d e = d.sure (e.holds refl)
decides-one false false d e = refl

pub every-none : {P : ℕ → Type 0} → Every 0 P
every-none = record { each = λ i h. absurd (omega arith) }

pub every_more : {P : ℕ → Type 0} {i : ℕ} → Every i P → P i → Every (i + 1) P
every_more {P} {i} e p = record { each = below_more P i e.each p }

every-fails : {P : ℕ → Type 0} {n i : ℕ} → i < n → (P i → ⊥) → Decides false (Every n P)
every-fails {P} {n} {i} h f = decides-false (λ e. f (e.each i h))

every-done : {P : ℕ → Type 0} {n i : ℕ} → Every i P → n ≤ i → Decides true (Every n P)
every-done {P} {n} {i} e h = decides-true (record { each = λ j l. e.each j (omega arith) })

-- a loop over t places, of which the first k are so
pub record Checked (P : ℕ → Type 0) (t n k : ℕ) : Type 0 where
  pub count : n ≡ t
  pub so : Every k P

pub checked-start : {P : ℕ → Type 0} {t n : ℕ} → n ≡ t → Checked P t n 0
checked-start e = record { count = e; so = every-none }

pub checked-next : {P : ℕ → Type 0} {t n k : ℕ} → Checked P t n k → P k → Checked P t n (k + 1)
checked-next c p = record { count = c.count; so = every_more c.so p }

pub checked-fails : {P : ℕ → Type 0} {t n k : ℕ} → Checked P t n k → k < n → (P k → ⊥) → Decides false (Every t P)
checked-fails {P} {t} {n} {k} c h f = every-fails (let l : k < t = omega (arith, c.count) in l) f

pub checked-done : {P : ℕ → Type 0} {t n k : ℕ} → Checked P t n k → n ≤ k → Decides true (Every t P)
checked-done {P} {t} {n} {k} c h = every-done c.so (omega (arith, c.count))

-- the same by an answer about place k
module _ {P : ℕ → Type 0} {t n k : ℕ} (c : Checked P t n k) (r : Bool) (d : Decides r (P k)) where
  pub checked-not : k < n → not r ≡ true → Decides false (Every t P)
  checked-not h q = checked-fails c h (decides_not d (not-true r q))

  pub checked-so : not r ≡ false → Checked P t n (k + 1)
  checked-so q = checked-next c (d.holds (not-false r q))

-- ---- arguments

module _ (run : List ℕ) (at count i : ℕ) where
  pub placed-many : arg_places < count → Decides false (PlacedAt run at count i)
  placed-many h = decides-false (λ p. omega (arith, p.few))

  module _ (k a : ℕ) (e : a ≡ get_or run (at + k) 0) where
    pub placed-late : k < count → i ≤ a → Decides false (PlacedAt run at count i)
    placed-late h l = decides-false (λ p. omega (arith, p.earlier.each k h, e))

    pub placed-next : Every k (Earlier run at i) → a < i → Every (k + 1) (Earlier run at i)
    placed-next so l = every_more so (omega arith)

  -- a count that was read
  pub placed-read : (n : ℕ) (r : Bool) → n ≡ count → Decides r (PlacedAt run at n i) → Decides r (PlacedAt run at count i)
  placed-read n r e d = rw e at d

  pub placed-done : (k : ℕ) → count ≤ arg_places → Every k (Earlier run at i) → count ≤ k → Decides true (PlacedAt run at count i)
  placed-done k few so h = decides-true (record { few = few; earlier = (every-done so h).holds refl })

-- ---- statements and literals

module _ (said : List ℕ) (limit k a : ℕ) (e : a ≡ left_in said k) where
  pub named-left : limit ≤ a → Decides false (NamedAt said limit k)
  named-left l = decides-false (λ p. omega (arith, p.left))

  module _ (b : ℕ) (f : b ≡ right_in said k) where
    pub named-right : limit ≤ b → Decides false (NamedAt said limit k)
    named-right l = decides-false (λ p. omega (arith, p.right))

    pub named-both : a < limit → b < limit → Decides true (NamedAt said limit k)
    named-both h l = decides-true (record { left = omega arith; right = omega arith })

-- ---- pattern rows

pub variable-large : (x h a : ℕ) → h ≡ x → a ≡ h → most_variables ≤ a → Decides false (x < most_variables)
variable-large x h a e f l = decides-false (λ s. omega arith)

module _ (patterns : List ℕ) (i : ℕ) (r : Bool) where
  pub variable-decides : (k : ℕ) → k ≡ pattern_kind_in patterns i → k ≡ 4 → Decides r (head_in patterns i < most_variables) → Decides r (PatternAt patterns i)
  variable-decides k e f d =
      let is : pattern_kind_in patterns i ≡ 4 = sym e ∙ f in
      record { holds = λ y. record { variable = λ _. d.holds y; symbol = λ n. absurd (n is) }; sure = λ p. d.sure (p.variable is) }

  pub symbol-decides : (k n : ℕ) → k ≡ pattern_kind_in patterns i → (k ≡ 4 → ⊥) → n ≡ pattern_count_in patterns i → Decides r (PlacedAt patterns (i * pattern_size + 3) n i)
      → Decides r (PatternAt patterns i)
  symbol-decides k n e other c d =
      let not-variable : pattern_kind_in patterns i ≡ 4 → ⊥ = λ q. other (e ∙ q) in
      let d' : Decides r (PlacedAt patterns (i * pattern_size + 3) (pattern_count_in patterns i) i) = rw c at d in
      record { holds = λ y. record { variable = λ q. absurd (not-variable q); symbol = λ _. d'.holds y }; sure = λ p. d'.sure (p.symbol not-variable) }

pub ruleset mine = (rules, every-none, placed-many, placed-late, placed-next, placed-read, placed-done, checked-start, checked-not, checked-so, checked-done, named-left, named-right, named-both, variable-large, variable-decides, symbol-decides)
