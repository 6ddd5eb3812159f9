-- Numbers written byte by byte, the low byte first.
--     length-octets                      how many bytes there are
--     sets-swap                          what is stored before a place and what is stored from it on can be stored in any order
--     Storing, storing-start, storing-next, storing-done   the bytes from some place on are stored, and those before it are of the rest
-- Assumes nothing.
use mathlib.Core.List.{List, [], ◌∷◌, ◌++◌, append-nil, append_assoc}
use mathlib.Core.Path.{◌≡◌, refl, sym, ap, ◌∙◌}
use Prim.Native.Nat.{ℕ, zero, suc, ◌+◌, ◌-◌, ◌*◌, ◌/◌, ◌%◌, ◌≤◌, ◌<◌}
use native.Mathlib.Omega.{arith}
use borrow.Author.Rules.{rules}
use lib.ListN.{length, set, length-append}
use lib.Seq.{sets, length-sets, set_comm}
use Rattle.meaning.specs.Writing.{hex}
use Rattle.reply_lines.proofs.Stores.{sets-append}
use Rattle.reply_lines.proofs.Lines.{next-inside}
use Rattle.grounds_lines.specs.Lines.{octets}

pub length-octets : (n x : ℕ) → length (octets n x) ≡ n
unfolding octets
length-octets zero x = refl
length-octets (suc n) x = length-append (octets n (x / 256)) (x % 256 ∷ []) ∙ omega (arith, length-octets n (x / 256))

set-swap : (q l : List ℕ) (i j a : ℕ) → i < j → set (sets l j q) i a ≡ sets (set l i a) j q
set-swap [] l i j a h = refl
set-swap (b ∷ q) l i j a h =
    set-swap q (set l j b) i (suc j) a (omega arith) ∙ ap (λ (m : List ℕ). sets m (suc j) q) (set_comm l j i b a (λ e. absurd (omega arith)))

pub sets-swap : (p q l : List ℕ) (i j : ℕ) → i + length p ≤ j → sets (sets l j q) i p ≡ sets (sets l i p) j q
sets-swap [] q l i j h = refl
sets-swap (a ∷ p) q l i j h =
    ap (λ (m : List ℕ). sets m (suc i) p) (set-swap q l i j a (omega arith)) ∙ sets-swap p q (set l i a) (suc i) j (omega arith)

-- what stands before a piece is stored after it
sets-before : (p q l : List ℕ) (i j : ℕ) → j ≡ i + length p → sets (sets l j q) i p ≡ sets l i (p ++ q)
sets-before p q l i j e =
    sets-swap p q l i j (omega arith) ∙ ap (λ (k : ℕ). sets (sets l i p) k q) e ∙ sym (sets-append p q l i)

-- the bytes from byte `left` on are stored, and those before it are of `rest`
pub record Storing (x n : ℕ) (lent : List ℕ) (at left rest : ℕ) (after : List ℕ) : Type 0 where
  pub tail : List ℕ
  pub within : left ≤ n
  pub split : octets n x ≡ octets left rest ++ tail
  pub stored : after ≡ sets lent (at + left * 2) (hex tail)
  pub long : length after ≡ length lent

pub storing-start : (x n : ℕ) (lent : List ℕ) (at : ℕ) → Storing x n lent at n x lent
unfolding hex
storing-start x n lent at = record { tail = []; within = omega arith; split = sym (append-nil (octets n x)); stored = refl; long = refl }

octets-cut : (k x : ℕ) → 0 < k → octets k x ≡ octets (k - 1) (x / 256) ++ (x % 256 ∷ [])
unfolding octets
octets-cut k x h = let e : k ≡ suc (k - 1) = omega arith in ap (λ (i : ℕ). octets i x) e

pub storing-next : {x n at left rest : ℕ} {lent after next : List ℕ} → Storing x n lent at left rest after → 0 < left
    → next ≡ sets after (at + (left - 1) * 2) (hex (rest % 256 ∷ [])) → Storing x n lent at (left - 1) (rest / 256) next
unfolding hex
storing-next {x} {n} {at} {left} {rest} {lent} {after} {next} f h e =
    record {
      tail = rest % 256 ∷ f.tail;
      within = omega (arith, f.within);
      split =
          f.split ∙ ap (λ (l : List ℕ). l ++ f.tail) (octets-cut left rest h)
          ∙ append_assoc (octets (left - 1) (rest / 256)) (rest % 256 ∷ []) f.tail;
      stored =
          e ∙ ap (λ (l : List ℕ). sets l (at + (left - 1) * 2) (hex (rest % 256 ∷ []))) f.stored
          ∙ sets-before (hex (rest % 256 ∷ [])) (hex f.tail) lent (at + (left - 1) * 2) (at + left * 2) (omega arith);
      long = ap length e ∙ length-sets after (at + (left - 1) * 2) (hex (rest % 256 ∷ [])) ∙ f.long;
    }

pub storing-room : {x n at left rest : ℕ} {lent after : List ℕ} → Storing x n lent at left rest after → 0 < left → at + n * 2 ≤ length lent
    → at + (left - 1) * 2 + 2 ≤ length after
storing-room f h r = omega (arith, f.within, f.long)

pub storing-done : {x n at left rest : ℕ} {lent after : List ℕ} → Storing x n lent at left rest after → left ≤ 0 → after ≡ sets lent at (hex (octets n x))
unfolding octets
storing-done {x} {n} {at} {left} {rest} {lent} {after} f h =
    let e : left ≡ 0 = omega arith in
    let p : at + left * 2 ≡ at = omega arith in
    let q : octets n x ≡ f.tail = f.split ∙ ap (λ (k : ℕ). octets k rest ++ f.tail) e in
    f.stored ∙ ap (λ (k : ℕ). sets lent k (hex f.tail)) p ∙ ap (λ (l : List ℕ). sets lent at (hex l)) (sym q)

pub ruleset mine = (rules, next-inside, storing-start, storing-next, storing-room, storing-done)
