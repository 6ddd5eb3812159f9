-- What may differ from some class of a set, put into the scratch.
--     class-small, class-below, apart-room   where the set of a class stands
--     adds-apart                 one class
--     part-start .. part-less    all classes of a set
--     part-cleared, part-again   with nothing in the scratch before
-- Assumes nothing.
use mathlib.Core.Bool.{Bool, true, false, ◌||◌}
use mathlib.Core.List.{List}
use mathlib.Core.Path.{◌≡◌, refl, sym, ◌∙◌, subst}
use Prim.Native.Nat.{ℕ, ◌+◌, ◌*◌, ◌-◌, ◌^◌, ◌≤◌, ◌<◌}
use native.Mathlib.Nat.{mul-le-mul}
use native.Mathlib.Omega.{arith}
use native.Mathlib.Decide.{dec_lt}
use borrow.Author.Rules.{rules}
use borrow.Author.Tests.{eqb-true, eqb-false}
use lib.Dec.{eqb}
use lib.ListN.{length}
use Rattle.meaning.proofs.Logic.{or_left, or_right, false-true}
use Rattle.bits.specs.Sets.{has, NoneFrom, First, United}
use Rattle.bits.proofs.Words.{either-has}
use Rattle.search_sets.specs.Words.{Cleared}
use Rattle.search_sets.specs.Parting.{ApartAsk, AddsApart, Parted}
use Rattle.search_sets.proofs.Changed.{sets-apart}

pub class-small : (width k : ℕ) → width ≤ 16 → k < 1024 → k * width < 2 ^ 64
class-small width k h l = let g : k ≤ 1024 = omega arith in let m : k * width ≤ 1024 * 16 = mul-le-mul g h in omega (arith, m)

pub class-below : (apart scratch width n k : ℕ) → ApartAsk apart scratch width n → k < n → k < 1024
class-below apart scratch width n k h l = omega (arith, h.few, h.narrow)

pub apart-room : (apart scratch width n k b : ℕ) → ApartAsk apart scratch width n → k < n → b ≡ k * width → b + width ≤ apart
apart-room apart scratch width n k b h l e = omega (arith, e, h.sets, sets-apart width k n l)

pub adds-apart : (apart old new : List ℕ) (width k b : ℕ) → b ≡ k * width → United old apart new 0 b width → AddsApart apart old new width k
adds-apart apart old new width k b e u =
    record {
      long = u.long;
      kept = λ x l t. each x l ∙ or_left (has old 0 x) (has apart b x) t;
      put = λ x l t. each x l ∙ or_right (has old 0 x) (has apart b x) (subst (λ (m : ℕ). has apart m x ≡ true) (sym e) t);
    }
  where
    each : (x : ℕ) → x < width * 64 → has new 0 x ≡ (has old 0 x || has apart b x)
    each x l = either-has width old apart new 0 b 0 u.words x l

pub part-start : (sets apart old : List ℕ) (base width : ℕ) → Parted sets apart old old base width 0
part-start sets apart old base width = record { long = refl; put = λ j h. absurd (omega arith) }

module _ (sets apart old mid : List ℕ) (base width from : ℕ) (f : Parted sets apart old mid base width from) where
  pub part-turn : (new : List ℕ) (k m : ℕ) → First sets base width from k → AddsApart apart mid new width k → m ≡ k + 1 → Parted sets apart old new base width m
  part-turn new k m g d em = record { long = d.long ∙ f.long; put = λ j h t x l e. go j h t x l e (dec_lt j from) (eqb j k) refl }
    where
      go : (j : ℕ) → j < m → has sets base j ≡ true → (x : ℕ) → x < width * 64 → has apart (j * width) x ≡ true → Dec (j < from) → (b : Bool) → eqb j k ≡ b → has new 0 x ≡ true
      go j h t x l e (yes s) b z = d.kept x l (f.put j s t x l e)
      go j h t x l e (no s) true z = d.put x l (subst (λ (y : ℕ). has apart (y * width) x ≡ true) (eqb-true j k z) e)
      go j h t x l e (no s) false z = false-true t (g.first j (omega arith) (omega (arith, eqb-false j k z)))

  pub part-past : (n k : ℕ) → First sets base width from k → n ≤ k → Parted sets apart old mid base width n
  part-past n k g l = record { long = f.long; put = λ j h t. go j h t (dec_lt j from) }
    where
      go : (j : ℕ) → j < n → has sets base j ≡ true → Dec (j < from) → (x : ℕ) → x < width * 64 → has apart (j * width) x ≡ true → has mid 0 x ≡ true
      go j h t (yes s) = f.put j s t
      go j h t (no s) = false-true t (g.first j (omega arith) (omega arith))

  pub part_end : (size most n : ℕ) → ApartAsk size most width n → NoneFrom sets base width from → Parted sets apart old mid base width n
  part_end size most n a g = record { long = f.long; put = λ j h t. go j h t (dec_lt j from) }
    where
      go : (j : ℕ) → j < n → has sets base j ≡ true → Dec (j < from) → (x : ℕ) → x < width * 64 → has apart (j * width) x ≡ true → has mid 0 x ≡ true
      go j h t (yes s) = f.put j s t
      go j h t (no s) = false-true t (g.none j (omega arith) (omega (arith, a.few)))

  pub part-ask : (size most n : ℕ) → ApartAsk size (length old) width n → most ≡ length mid → ApartAsk size most width n
  part-ask size most n h e = subst (λ (m : ℕ). ApartAsk size m width n) (sym (e ∙ f.long)) h

pub part-less : (sets : List ℕ) (base width n from k m : ℕ) → First sets base width from k → k < n → m ≡ k + 1 → n - m < n - from
part-less sets base width n from k m f l e = omega (arith, f.later)

-- with nothing in the scratch before
pub part-cleared : (sets apart old mid new : List ℕ) (base width n : ℕ) → Cleared old mid 0 width → Parted sets apart mid new base width n → Parted sets apart old new base width n
part-cleared sets apart old mid new base width n c f = record { long = f.long ∙ c.long; put = f.put }

pub part-again : (old mid : List ℕ) (size most width n : ℕ) → ApartAsk size (length old) width n → Cleared old mid 0 width → most ≡ length mid → ApartAsk size most width n
part-again old mid size most width n h c e = subst (λ (m : ℕ). ApartAsk size m width n) (sym (e ∙ c.long)) h

pub ruleset mine = (rules, class-small, class-below, apart-room, adds-apart, part-start, part-turn, part-past, part_end, part-less, part-ask, part-cleared, part-again)
