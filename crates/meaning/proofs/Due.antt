-- It is enough to try a literal once, at the choice of its last variable.
--     dead_now        a literal that is due at a choice fails
--     due-search     a search that tries only the literals that are due gives what a search gives that tries all that are ready
--     due-first      with any pruning that keeps its promise it gives what the plain search gives
-- Assumes nothing.
use mathlib.Core.Bool.{Bool, true, false, not, ◌&&◌, ◌||◌}
use mathlib.Core.List.{List, [], ◌∷◌, ◌++◌}
use mathlib.Core.Path.{◌≡◌, refl, sym, ◌∙◌}
use mathlib.Core.Logic.{◌⊎◌, inl, inr, ⊎_elim}
use Prim.Native.Nat.{ℕ, suc, ◌≤◌, max}
use native.Mathlib.Omega.{arith}
use lib.Dec.{eqb, leb}
use borrow.Author.Tests.{eqb-true, eqb-false, eq-eqb, leb-true, le-leb, not-true, not-false}
use lib.ListN.{length, get_or, get_or-append}
use Rattle.meaning.specs.Context.{Row}
use Rattle.meaning.specs.Rules.{Pattern, Literal, Clause, variables}
use Rattle.meaning.specs.Formed.{left_of, right_of}
use Rattle.meaning.specs.Values.{levels, stages}
use Rattle.meaning.specs.FirstBy.{holds_by, first_by}
use Rattle.meaning.specs.Pruning.{fails, due}
use Rattle.meaning.proofs.Logic.{bool_same, false-true, and_both, and_none, and-true-left, and-true-right, or_cases, or_left, or_right, or-none}
use Rattle.meaning.proofs.Lists.{length-snoc}
use Rattle.meaning.proofs.Box.{Box}
use Rattle.meaning.proofs.Search.{search, search-same, Prunes}
use Rattle.meaning.proofs.Seek.{starts}
use Rattle.meaning.proofs.Prefix.{ready, holds-stages}
use Rattle.meaning.proofs.Pruned.{start_box, Sought, dead, pruned-first}

ready-levels : (k : ℕ) (ls : List ℕ) (l : Literal) → ready k ls l ≡ true → (get_or ls (left_of l) 0 ≤ k) × (get_or ls (right_of l) 0 ≤ k)
unfolding ready
ready-levels k ls l r =
    let a : ℕ = get_or ls (left_of l) 0 in
    let b : ℕ = get_or ls (right_of l) 0 in
    (leb-true a k (and-true-left (leb a k) (leb b k) r), leb-true b k (and-true-right (leb a k) (leb b k) r))

levels-ready : (k : ℕ) (ls : List ℕ) (l : Literal) → get_or ls (left_of l) 0 ≤ k → get_or ls (right_of l) 0 ≤ k → ready k ls l ≡ true
unfolding ready
levels-ready k ls l p q =
    and_both (leb (get_or ls (left_of l) 0) k) (leb (get_or ls (right_of l) 0) k) (le-leb (get_or ls (left_of l) 0) k p) (le-leb (get_or ls (right_of l) 0) k q)

due-ready : (k : ℕ) (ls : List ℕ) (l : Literal) → due k ls l ≡ true → ready k ls l ≡ true
unfolding due
due-ready k ls l d =
    let e : max (get_or ls (left_of l) 0) (get_or ls (right_of l) 0) ≡ k = eqb-true (max (get_or ls (left_of l) 0) (get_or ls (right_of l) 0)) k d in
    levels-ready k ls l (omega arith) (omega arith)

-- what is ready is due, or was ready one variable earlier
ready-due : (k : ℕ) (ls : List ℕ) (l : Literal) → ready k ls l ≡ true → (due k ls l ≡ true) ⊎ ((j : ℕ) → suc j ≡ k → ready j ls l ≡ true)
unfolding due
ready-due k ls l r = go (eqb n k) refl
  where
    n : ℕ
    n = max (get_or ls (left_of l) 0) (get_or ls (right_of l) 0)

    go : (b : Bool) → eqb n k ≡ b → (due k ls l ≡ true) ⊎ ((j : ℕ) → suc j ≡ k → ready j ls l ≡ true)
    go true e = inl e
    go false e =
        let w : (get_or ls (left_of l) 0 ≤ k) × (get_or ls (right_of l) 0 ≤ k) = ready-levels k ls l r in
        inr (λ j h. levels-ready j ls l (omega (arith, w.0, w.1, eqb-false n k e)) (omega (arith, w.0, w.1, eqb-false n k e)))

ready-zero : (ls : List ℕ) (l : Literal) → ready 0 ls l ≡ true → due 0 ls l ≡ true
unfolding due
ready-zero ls l r =
    let w : (get_or ls (left_of l) 0 ≤ 0) × (get_or ls (right_of l) 0 ≤ 0) = ready-levels 0 ls l r in
    eq-eqb (max (get_or ls (left_of l) 0) (get_or ls (right_of l) 0)) 0 (omega (arith, w.0, w.1))

-- where each literal that is asked and fails is also asked otherwise
fails_more : (differs : ℕ → ℕ → Bool) (asks also : Literal → Bool) (ns : List ℕ) → ((l : Literal) → asks l ≡ true → also l ≡ true)
    → (ls : List Literal) → fails differs asks ns ls ≡ true → fails differs also ns ls ≡ true
unfolding fails
fails_more differs asks also ns f [] e = e
fails_more differs asks also ns f (l ∷ ls) e =
    ⊎_elim
    (λ w. or_left (also l && not (holds_by differs ns l)) (fails differs also ns ls)
    (and_both (also l) (not (holds_by differs ns l)) (f l (and-true-left (asks l) (not (holds_by differs ns l)) w)) (and-true-right (asks l) (not (holds_by differs ns l)) w)))
    (λ w. or_right (also l && not (holds_by differs ns l)) (fails differs also ns ls) (fails_more differs asks also ns f ls w))
    (or_cases (asks l && not (holds_by differs ns l)) (fails differs asks ns ls) e)

module _ (differs : ℕ → ℕ → Bool) (rows : List Row) (rep : ℕ → ℕ) (offset : ℕ) (k : Clause) where
  unfoldable pub dead_now : List ℕ → Bool
  dead_now chosen = fails differs (due (length chosen) (levels k.patterns)) (stages rows rep offset k.patterns chosen (length chosen)).numbers k.literals

  abbrev ps : List Pattern
  ps = k.patterns

  -- a literal that is ready at a choice with one place more, and fails, is due there, where none failed before
  fails-due : (c : List ℕ) (x : ℕ) (ls : List Literal) → fails differs (ready (length c) (levels ps)) (stages rows rep offset ps c (length c)).numbers ls ≡ false
      → fails differs (ready (suc (length c)) (levels ps)) (stages rows rep offset ps (c ++ (x ∷ [])) (suc (length c))).numbers ls ≡ true
      → fails differs (due (suc (length c)) (levels ps)) (stages rows rep offset ps (c ++ (x ∷ [])) (suc (length c))).numbers ls ≡ true
  unfolding fails
  fails-due c x [] e f = f
  fails-due c x (l ∷ ls) e f =
      ⊎_elim here (λ w. or_right (now l && not (holds_by differs ns l)) (fails differs now ns ls) (fails-due c x ls two.1 w))
      (or_cases (ready (suc (length c)) (levels ps) l && not (holds_by differs ns l)) (fails differs (ready (suc (length c)) (levels ps)) ns ls) f)
    where
      ns : List ℕ
      ns = (stages rows rep offset ps (c ++ (x ∷ [])) (suc (length c))).numbers

      ms : List ℕ
      ms = (stages rows rep offset ps c (length c)).numbers

      now : Literal → Bool
      now = due (suc (length c)) (levels ps)

      two : ((ready (length c) (levels ps) l && not (holds_by differs ms l)) ≡ false) × (fails differs (ready (length c) (levels ps)) ms ls ≡ false)
      two = or-none (ready (length c) (levels ps) l && not (holds_by differs ms l)) (fails differs (ready (length c) (levels ps)) ms ls) e

      here : (ready (suc (length c)) (levels ps) l && not (holds_by differs ns l)) ≡ true → ((now l && not (holds_by differs ns l)) || fails differs now ns ls) ≡ true
      here w =
          let r : ready (suc (length c)) (levels ps) l ≡ true = and-true-left (ready (suc (length c)) (levels ps) l) (not (holds_by differs ns l)) w in
          let n : not (holds_by differs ns l) ≡ true = and-true-right (ready (suc (length c)) (levels ps) l) (not (holds_by differs ns l)) w in
          ⊎_elim (λ d. or_left (now l && not (holds_by differs ns l)) (fails differs now ns ls) (and_both (now l) (not (holds_by differs ns l)) d n))
          (λ g. false-true (was (g (length c) refl)) (not-true (holds_by differs ns l) n))
          (ready-due (suc (length c)) (levels ps) l r)
        where
          was : ready (length c) (levels ps) l ≡ true → holds_by differs ns l ≡ true
          was r =
              holds-stages rows rep offset ps (c ++ (x ∷ [])) c (length c) (get_or-append c (x ∷ []) 0) differs (suc (length c)) (omega arith) l r
              ∙ not-false (holds_by differs ms l) (and_none (ready (length c) (levels ps) l) (not (holds_by differs ms l)) two.0 r)

  now-dead : (chosen : List ℕ) → dead_now chosen ≡ true → dead differs rows rep offset k chosen ≡ true
  unfolding dead dead_now
  now-dead chosen e =
      fails_more differs (due (length chosen) (levels ps)) (ready (length chosen) (levels ps)) (stages rows rep offset ps chosen (length chosen)).numbers
      (due-ready (length chosen) (levels ps))
      k.literals
      e

  start-now : dead differs rows rep offset k [] ≡ true → dead_now [] ≡ true
  unfolding dead dead_now
  start-now e = fails_more differs (ready 0 (levels ps)) (due 0 (levels ps)) (stages rows rep offset ps [] 0).numbers (ready-zero (levels ps)) k.literals e

  next-now : (c : List ℕ) (x : ℕ) → dead differs rows rep offset k c ≡ false → dead differs rows rep offset k (c ++ (x ∷ [])) ≡ true → dead_now (c ++ (x ∷ [])) ≡ true
  unfolding dead dead_now
  next-now c x e f = rw (length-snoc c x) (fails-due c x k.literals e (rw (length-snoc c x) at f))

  -- a search comes to a choice only past one that is not dead
  abbrev Passed : List ℕ → Type 0
  Passed chosen = (chosen ≡ []) ⊎ ((c : List ℕ) × (x : ℕ) × (chosen ≡ c ++ (x ∷ [])) × (dead differs rows rep offset k c ≡ false))

  passed-same : (chosen : List ℕ) → Passed chosen → dead differs rows rep offset k chosen ≡ dead_now chosen
  passed-same chosen (inl e) = rw e (bool_same (dead differs rows rep offset k []) (dead_now []) start-now (now-dead []))
  passed-same chosen (inr w) =
      let c : List ℕ = w.0 in
      let x : ℕ = w.1 in
      rw w.2 (bool_same (dead differs rows rep offset k (c ++ (x ∷ []))) (dead_now (c ++ (x ∷ []))) (next-now c x w.3) (now-dead (c ++ (x ∷ []))))

  pub due-search : (prune : List ℕ → Box → Box) (n : ℕ) (box : Box) → search (dead differs rows rep offset k) prune n [] box ≡ search dead_now prune n [] box
  due-search prune n box =
      search-same (dead differs rows rep offset k) dead_now prune Passed passed-same (λ chosen r e x. inr (chosen, x, refl, e)) n [] box (inl refl)

  pub due-first : (prune : List ℕ → Box → Box) → Prunes (Sought differs rows rep offset k) (starts rows rep) prune
      → search dead_now prune (variables k.patterns) [] (start_box rows rep k) ≡ first_by differs rows rep offset k
  due-first prune p = sym (due-search prune (variables ps) (start_box rows rep k)) ∙ pruned-first differs rows rep offset k prune p
