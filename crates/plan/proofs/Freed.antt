-- What a search for the first breach can leave out, whatever the table is: it may be closed or not. What a literal asks of two numbers is settled by the values
-- that they name, and the value of a row rests on no variable that its term has not.
--     OfClasses       only numbers below the offset differ, which are those of classes
--     free-sought     a variable that no literal that is asked reaches may take its first open row alone
--     freed-first     a search that does so gives what the plain search gives
--     never-none      where no number differs from itself, a clause with a literal p unequal p has no breach
-- Assumes nothing.
use mathlib.Core.Bool.{Bool, true, false, not, ◌&&◌, ◌||◌}
use mathlib.Core.List.{List, [], ◌∷◌, ◌++◌}
use mathlib.Core.Path.{◌≡◌, refl, ap, ap₂, sym, ◌∙◌}
use mathlib.Core.Logic.{⊎_elim}
use Prim.Native.Nat.{ℕ, zero, suc, ◌<◌}
use native.Mathlib.Omega.{arith}
use borrow.Author.Tests.{eqb-true, eq-eqb, not-true}
use lib.ListN.{length, get_or, length-append}
use Rattle.meaning.specs.Context.{Row, node, stop, term₀}
use Rattle.meaning.specs.Rules.{Pattern, variables, Literal, equal, unequal, Clause, Found, found, nothing, First}
use Rattle.meaning.specs.Formed.{AllPlaced, Names, NamesAll, left_of, right_of}
use Rattle.meaning.specs.Values.{number_at, numbers}
use Rattle.meaning.specs.FirstBy.{holds_by, all_hold_by, breaks, first_by}
use Rattle.meaning.specs.Pruning.{touches, none_touch}
use Rattle.meaning.proofs.Logic.{and-true-left, and-true-right, and_both, or-none, or_cases, false-true}
use Rattle.meaning.proofs.Box.{Mem, AllIn}
use Rattle.meaning.proofs.Search.{search, Prunes}
use Rattle.meaning.proofs.Seek.{starts, starts-rising, lowest-self, seek-first}
use Rattle.meaning.proofs.Prunings.{take_first, free-prunes}
use Rattle.meaning.proofs.Free.{untouched}
use Rattle.meaning.proofs.Pruned.{start_box, Sought}
use Rattle.meaning.proofs.Due.{dead_now, due-first}
use Rattle.plan.specs.Reach.{idle, asked, free_by, self_unequal, never}
use Rattle.plan.proofs.Valued.{value, number-equal, number-class, marks, mark-at, same-value}

-- ---- literals

abbrev pub OfClasses : ℕ → (ℕ → ℕ → Bool) → Type 0
OfClasses offset differs = (n m : ℕ) → differs n m ≡ true → (n < offset) × (m < offset)

module _ (rows : List Row) (rep : ℕ → ℕ) (offset : ℕ) (low : (i : ℕ) → rep i < offset) (differs : ℕ → ℕ → Bool) (within : OfClasses offset differs)
    (ps : List Pattern) (placed : AllPlaced 0 ps)
    (given other : List ℕ) (means : (v : ℕ) → v < variables ps → number_at given v < offset) (means' : (v : ℕ) → v < variables ps → number_at other v < offset) where
  abbrev nums : List ℕ
  nums = numbers rows rep offset ps given

  abbrev nums' : List ℕ
  nums' = numbers rows rep offset ps other

  abbrev One : ℕ → Type 0
  One p = value rows rep ps given p ≡ value rows rep ps other p

  class-carries : (p : ℕ) → p < length ps → One p → number_at nums p < offset → number_at nums' p ≡ number_at nums p
  class-carries p h o l =
      (number-class rows rep offset low ps placed other means' p (number_at nums p) h l).1
      (sym o ∙ (number-class rows rep offset low ps placed given means p (number_at nums p) h l).0 refl)

  equal-carries : (p q : ℕ) → p < length ps → q < length ps → One p → One q → number_at nums p ≡ number_at nums q → number_at nums' p ≡ number_at nums' q
  equal-carries p q hp hq op oq e =
      (number-equal rows rep offset low ps placed other means' p q hp hq).1
      (sym op ∙ (number-equal rows rep offset low ps placed given means p q hp hq).0 e ∙ oq)

  differs-carries : (p q : ℕ) → p < length ps → q < length ps → One p → One q → differs (number_at nums p) (number_at nums q) ≡ true
      → differs (number_at nums' p) (number_at nums' q) ≡ true
  differs-carries p q hp hq op oq e =
      let w : (number_at nums p < offset) × (number_at nums q < offset) = within (number_at nums p) (number_at nums q) e in
      ap₂ differs (class-carries p hp op w.0) (class-carries q hq oq w.1) ∙ e

  holds-carries : (l : Literal) → Names (length ps) l → One (left_of l) → One (right_of l) → holds_by differs nums l ≡ true → holds_by differs nums' l ≡ true
  unfolding holds_by
  holds-carries (equal p q) h op oq e =
      eq-eqb (number_at nums' p) (number_at nums' q) (equal-carries p q h.0 h.1 op oq (eqb-true (number_at nums p) (number_at nums q) e))
  holds-carries (unequal p q) h op oq e = differs-carries p q h.0 h.1 op oq e

  -- a literal that is not asked holds
  idle-holds : (l : Literal) → idle l ≡ true → holds_by differs nums' l ≡ true
  unfolding idle holds_by
  idle-holds (equal p q) e = eq-eqb (number_at nums' p) (number_at nums' q) (ap (number_at nums') (eqb-true p q e))
  idle-holds (unequal p q) e = false-true e refl

  all-carry : (bs : List Bool) → ((p : ℕ) → p < length ps → get_or bs p false ≡ false → One p) → (ls : List Literal) → NamesAll (length ps) ls
      → none_touch bs (asked ls) ≡ true → all_hold_by differs nums ls ≡ true → all_hold_by differs nums' ls ≡ true
  unfolding all_hold_by asked none_touch
  all-carry bs f [] h n e = refl
  all-carry bs f (l ∷ ls) h n e = go (idle l) refl
      (λ m. all-carry bs f ls h.1 m (and-true-right (holds_by differs nums l) (all_hold_by differs nums ls) e))
    where
      holds : holds_by differs nums l ≡ true
      holds = and-true-left (holds_by differs nums l) (all_hold_by differs nums ls) e

      go : (b : Bool) → idle l ≡ b → (none_touch bs (asked ls) ≡ true → all_hold_by differs nums' ls ≡ true)
          → (holds_by differs nums' l && all_hold_by differs nums' ls) ≡ true
      go true i rest =
          and_both (holds_by differs nums' l) (all_hold_by differs nums' ls) (idle-holds l i) (rest (rw (i, asked) at n))
      go false i rest =
          let a : Bool = get_or bs (left_of l) false in
          let b : Bool = get_or bs (right_of l) false in
          let t : (not (a || b) && none_touch bs (asked ls)) ≡ true = rw (i, asked, none_touch) at n in
          let w : (a ≡ false) × (b ≡ false) = or-none a b (not-true (a || b) (and-true-left (not (a || b)) (none_touch bs (asked ls)) t)) in
          and_both (holds_by differs nums' l) (all_hold_by differs nums' ls)
          (holds-carries l h.0 (f (left_of l) h.0.0 w.0) (f (right_of l) h.0.1 w.1) holds)
          (rest (and-true-right (not (a || b)) (none_touch bs (asked ls)) t))

-- ---- a variable that no literal that is asked reaches

put_other : (c : List ℕ) (x y : ℕ) (r : List ℕ) (w : ℕ) → (w ≡ length c → ⊥) → number_at (c ++ x ∷ r) w ≡ number_at (c ++ y ∷ r) w
put_other [] x y r zero n = absurd (n refl)
put_other [] x y r (suc w) n = refl
put_other (z ∷ c) x y r zero n = refl
put_other (z ∷ c) x y r (suc w) n = put_other c x y r w (λ e. n (ap suc e))

all-put : (l c : List ℕ) (x y : ℕ) (r : List ℕ) → Mem x l → AllIn l (c ++ y ∷ r) → AllIn l (c ++ x ∷ r)
all-put l [] x y r m i = (m, i.1)
all-put l (z ∷ c) x y r m i = (i.0, all-put l c x y r m i.1)

-- each place of an assignment holds a class
all-class : (rows : List Row) (rep : ℕ → ℕ) (offset : ℕ) → ((i : ℕ) → rep i < offset) → (a : List ℕ) → AllIn (starts rows rep) a
    → (v : ℕ) → v < length a → number_at a v < offset
all-class rows rep offset low [] i v h = absurd (omega arith)
all-class rows rep offset low (x ∷ a) i zero h = omega (arith, low x, lowest-self rep x 0 (length rows) i.0)
all-class rows rep offset low (x ∷ a) i (suc v) h = all-class rows rep offset low a i.1 v (omega arith)

module _ (rows : List Row) (rep : ℕ → ℕ) (offset : ℕ) (differs : ℕ → ℕ → Bool) (k : Clause) where
  module _ (within : OfClasses offset differs) (placed : AllPlaced 0 k.patterns) (named : NamesAll (length k.patterns) k.literals) (low : (i : ℕ) → rep i < offset) where
    free-swap : (chosen : List ℕ) (x y : ℕ) (r : List ℕ) → free_by k (length chosen) ≡ true → Mem x (starts rows rep)
        → Sought differs rows rep offset k (chosen ++ y ∷ r) → Sought differs rows rep offset k (chosen ++ x ∷ r)
    unfolding free_by breaks
    free-swap chosen x y r e m w = (
      long,
      inside,
      all-carry rows rep offset low differs within k.patterns placed (chosen ++ y ∷ r) (chosen ++ x ∷ r)
          (λ v h. all-class rows rep offset low (chosen ++ y ∷ r) w.1 v (omega (arith, w.0)))
          (λ v h. all-class rows rep offset low (chosen ++ x ∷ r) inside v (omega (arith, long)))
          (touches (length chosen) k.patterns)
          (λ p h t. same-value rows rep k.patterns placed (chosen ++ y ∷ r) (chosen ++ x ∷ r) p h
          (untouched (length chosen) (marks (chosen ++ y ∷ r)) (marks (chosen ++ x ∷ r)) others k.patterns p t))
          k.literals
          named
          e
          w.2,
    )
      where
        long : length (chosen ++ x ∷ r) ≡ variables k.patterns
        long = omega (arith, length-append chosen (x ∷ r), length-append chosen (y ∷ r), w.0)

        inside : AllIn (starts rows rep) (chosen ++ x ∷ r)
        inside = all-put (starts rows rep) chosen x y r m w.1

        others : (v : ℕ) → (v ≡ length chosen → ⊥) → get_or (marks (chosen ++ y ∷ r)) v term₀ ≡ get_or (marks (chosen ++ x ∷ r)) v term₀
        others v n = mark-at (chosen ++ y ∷ r) v ∙ ap (λ (z : ℕ). node z stop) (put_other chosen y x r v n) ∙ sym (mark-at (chosen ++ x ∷ r) v)

    pub free-sought : Prunes (Sought differs rows rep offset k) (starts rows rep) (take_first (free_by k))
    free-sought = free-prunes (Sought differs rows rep offset k) (starts rows rep) (free_by k) free-swap

    pub freed-first : search (dead_now differs rows rep offset k) (take_first (free_by k)) (variables k.patterns) [] (start_box rows rep k)
        ≡ first_by differs rows rep offset k
    freed-first = due-first differs rows rep offset k (take_first (free_by k)) free-sought

  -- ---- a literal p unequal p

  module _ (unlike : (n : ℕ) → differs n n ≡ false) where
    never-holds : (ns : List ℕ) (ls : List Literal) → never ls ≡ true → all_hold_by differs ns ls ≡ true → ⊥
    unfolding never all_hold_by self_unequal holds_by
    never-holds ns [] e h = false-true e refl
    never-holds ns (l ∷ ls) e h =
        ⊎_elim (λ s. self l s (and-true-left (holds_by differs ns l) (all_hold_by differs ns ls) h))
        (λ s. never-holds ns ls s (and-true-right (holds_by differs ns l) (all_hold_by differs ns ls) h))
        (or_cases (self_unequal l) (never ls) e)
      where
        self : (l : Literal) → self_unequal l ≡ true → holds_by differs ns l ≡ true → ⊥
        self (equal p q) s t = false-true s refl
        self (unequal p q) s t = let z : p ≡ q = eqb-true p q s in false-true (rw z at t) (unlike (number_at ns q))

    pub never-none : never k.literals ≡ true → first_by differs rows rep offset k ≡ nothing
    unfolding first_by breaks
    never-none e =
        go (first_by differs rows rep offset k)
        (seek-first (breaks differs rows rep offset k) (starts rows rep) (starts-rising rows rep) (variables k.patterns))
      where
        go : (r : Found) → First (Sought differs rows rep offset k) r → r ≡ nothing
        go (found a) f = absurd (never-holds (numbers rows rep offset k.patterns a) k.literals e f.0.2)
        go nothing f = refl
