-- How many steps each owner has after a batch, of whose column the first steps are shared, and the others an owner's.
--     Shared         whether a shared step has a new number
--     owns-most      an owner has at most as many more as the column has steps
--     owns-other     an owner other than the column's has no more, where it is not 0
--     shares-more    of shared steps there are as many more as have new numbers; with those of the column, where its owner is 0
-- Assumes nothing.
use mathlib.Core.Bool.{Bool, true, false}
use mathlib.Core.List.{List}
use mathlib.Core.Path.{◌≡◌, refl, ap, sym, ◌∙◌}
use Prim.Native.Nat.{ℕ, suc, ◌+◌, ◌-◌, ◌≤◌, ◌<◌}
use native.Mathlib.Omega.{arith}
use lib.Dec.{eqb, ltb}
use borrow.Author.Tests.{eqb-true, eqb-false, eq-eqb, lt-ltb, le-ltb, ltb-true, ltb-false}
use lib.ListN.{length}
use Rattle.meaning.specs.Grounds.{Step, step_at}
use Rattle.grounds_laws.specs.Draft.{count_in, step_of, step_in, owner_at, draft}
use Rattle.grounds_laws.proofs.Drafts.{length-draft}
use Rattle.grounds_batches.specs.Marking.{kept}
use Rattle.grounds_batches.specs.Sending.{forgotten}
use Rattle.grounds_batches.specs.Drawing.{owned_by}
use Rattle.grounds_batches.proofs.Marks.{draft-at}
use Rattle.grounds_batches.proofs.Forgetting.{forgotten-shared}
use Rattle.grounds_batches.proofs.Owned.{passing, passing-most, passing-none, passing-alike, passing-least, passing-rest, passing-past}
use Rattle.grounds_batches.proofs.Sends.{named, named_none}

-- shared step p, counted from 0
abbrev pub Shared : List ℕ → ℕ → Bool
Shared news p = kept news (suc p)

module _ (rows from owner : ℕ) (cells : List ℕ) (early : from ≤ count_in cells) where
  abbrev steps : List Step
  steps = draft rows from owner cells

  owner_at_lem : (p : ℕ) → p < count_in cells → (step_at steps p).owner ≡ owner_at from owner p
  unfolding step_in step_of
  owner_at_lem p h = ap (λ (s : Step). s.owner) (draft-at rows from owner cells p h)

  owner-shared : (p : ℕ) → p < from → (step_at steps p).owner ≡ 0
  unfolding owner_at
  owner-shared p h = owner_at_lem p (omega arith) ∙ rw (lt-ltb p from h, owner_at)

  owner-own : (p : ℕ) → from ≤ p → p < count_in cells → (step_at steps p).owner ≡ owner
  unfolding owner_at
  owner-own p h l = owner_at_lem p l ∙ rw (le-ltb p from h, owner_at)

  rest : (n : ℕ) × (length steps ≡ from + n) × (from + n ≡ count_in cells)
  rest = (count_in cells - from, omega (arith, length-draft rows from owner cells), omega arith)

  named_other : (news : List ℕ) (x : ℕ) → (x ≡ 0 → ⊥) → (x ≡ owner → ⊥) → passing (named steps x news) (length steps) ≡ 0
  named_other news x d e =
      passing-none (named steps x news) (length steps)
      (λ p h. named_none steps x news p (λ q f. go p (omega (arith, length-draft rows from owner cells)) q (ltb p from) refl))
    where
      go : (p : ℕ) → p < count_in cells → (step_at steps p).owner ≡ x → (b : Bool) → ltb p from ≡ b → ⊥
      go p h q true f = d (sym q ∙ owner-shared p (ltb-true p from f))
      go p h q false f = e (sym q ∙ owner-own p (ltb-false p from f) h)

  shared-first : (news : List ℕ) → passing (named steps 0 news) from ≡ passing (Shared news) from
  unfolding named
  shared-first news = passing-alike (named steps 0 news) (Shared news) from (λ p h. rw (eq-eqb (step_at steps p).owner 0 (owner-shared p h)))

  shared-before : (news : List ℕ) → passing (Shared news) from ≤ passing (named steps 0 (forgotten from news)) (length steps)
  unfolding kept
  shared-before news =
      let same : passing (Shared (forgotten from news)) from ≡ passing (Shared news) from =
      passing-alike (Shared (forgotten from news)) (Shared news) from (λ p h. rw (forgotten-shared from news p h)) in
      omega (
        arith,
        same,
        shared-first (forgotten from news),
        passing-least (named steps 0 (forgotten from news)) from rest.0,
        ap (passing (named steps 0 (forgotten from news))) rest.1,
      )

  shared-own : (news : List ℕ) (n : ℕ) → count_in cells ≤ from + n → passing (named steps 0 news) (length steps) ≤ passing (Shared news) from + n
  shared-own news n h =
      omega (
        arith,
        shared-first news,
        passing-rest (named steps 0 news) from rest.0,
        ap (passing (named steps 0 news)) rest.1,
        rest.2,
      )

  shared-only : (news : List ℕ) → (owner ≡ 0 → ⊥) → passing (named steps 0 news) (length steps) ≡ passing (Shared news) from
  shared-only news d =
      ap (passing (named steps 0 news)) rest.1
      ∙ passing-past (named steps 0 news) from rest.0 (λ p h l. named_none steps 0 news p (λ q f. d (sym (owner-own p h (omega (arith, rest.2))) ∙ q)))
      ∙ shared-first news

  -- a batch from these new numbers and steps
  module _ (news after : List ℕ) (before made : List Step)
      (owned : (x : ℕ) → owned_by x made + passing (named (draft rows from owner cells) x (forgotten from news)) (length (draft rows from owner cells))
      ≤ owned_by x before + passing (named (draft rows from owner cells) x after) (length (draft rows from owner cells))) where
    pub owns-most : (x : ℕ) → owned_by x made ≤ owned_by x before + count_in cells
    owns-most x = omega (arith, owned x, passing-most (named steps x after) (length steps), length-draft rows from owner cells)

    pub owns-other : (x : ℕ) → (x ≡ 0 → ⊥) → (x ≡ owner → ⊥) → owned_by x made ≤ owned_by x before
    owns-other x d e = omega (arith, owned x, named_other after x d e)

    pub shares-more : (n : ℕ) → (owner ≡ 0 → count_in cells ≤ from + n) → owned_by 0 made + passing (Shared news) from ≤ owned_by 0 before + passing (Shared after) from + n
    shares-more n h = go (eqb owner 0) refl
      where
        go : (b : Bool) → eqb owner 0 ≡ b → owned_by 0 made + passing (Shared news) from ≤ owned_by 0 before + passing (Shared after) from + n
        go true e = omega (arith, owned 0, shared-before news, shared-own after n (h (eqb-true owner 0 e)))
        go false e = omega (arith, owned 0, shared-before news, shared-only after (eqb-false owner 0 e))
