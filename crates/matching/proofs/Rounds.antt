-- Each step keeps what it must, and so does a round of them; a search that runs rounds before each choice replies as the plain search does.
--     upward-keeping, downward-keeping, choosable-keeping, bit-keeping, row-left-keeping, variable-left-keeping    the steps by a pattern row, or by a variable
--     holds_at, literal-keeping       the step of a literal of the clause
--     match-keeping                   the symbol bits alone
--     rising-keeping, falling-keeping a step for each number below n
--     round-keeping, rounds-first     a round; the search with rounds gives exactly what the plain search gives
--     anyway-first, anyway-list       the same for any table at all, with a test of its entries; and for the list of all
--     differ-over, apart-over          two tests whose numbers that differ are classes
-- Assumes nothing.
use mathlib.Core.Bool.{Bool, true, ◌&&◌, ◌||◌}
use mathlib.Core.List.{List, [], ◌∷◌}
use mathlib.Core.Path.{◌≡◌, refl}
use mathlib.Core.Logic.{◌⊎◌, inl, inr, ⊎_elim}
use Prim.Native.Nat.{ℕ, zero, suc, ◌≤◌, ◌<◌}
use native.Mathlib.Omega.{arith}
use lib.Dec.{eqb, ltb}
use borrow.Author.Tests.{eqb-true, ltb-true}
use lib.ListN.{length}
use Rattle.meaning.specs.Context.{Row, Context, equations, differences, left_at, right_at}
use Rattle.meaning.specs.Equality.{rep_at}
use Rattle.meaning.specs.Rules.{Pattern, Literal, equal, unequal, Clause, variables}
use Rattle.meaning.specs.Formed.{Ordered, AllPlaced, Names, NamesAll}
use Rattle.meaning.specs.ByTable.{apart_by}
use Rattle.meaning.specs.Values.{number_at, numbers}
use Rattle.meaning.specs.FirstBy.{holds_by, all_hold_by, breaks, first_by}
use Rattle.meaning.specs.Closing.{close}
use Rattle.meaning.specs.Following.{follows_by, differ_by}
use Rattle.meaning.specs.Grounds.{literal_at}
use Rattle.meaning.proofs.Logic.{and-true-left, and-true-right, or_cases, false-true}
use Rattle.meaning.proofs.Box.{Box}
use Rattle.meaning.proofs.Search.{search}
use Rattle.meaning.proofs.Prunings.{KeepsAll, keeps-all-covers}
use Rattle.meaning.proofs.Seek.{starts}
use Rattle.meaning.proofs.Pruned.{Sought, dead, start_box}
use Rattle.meaning.proofs.Due.{dead_now, due-first}
use Rattle.meaning.proofs.ListingNext.{every_by}
use Rattle.meaning.proofs.Cited.{named-at}
use Rattle.matching.specs.Possible.{Possible}
use Rattle.matching.specs.Steps.{upward, downward, choosable, symbol_bit, match_bit, row_left, variable_left, rising, falling, times, literal_step, rise, fall, round, rounds, possible_by, pruned_by, entries_below, guarded}
use Rattle.matching.specs.Sound.{Table, Over, Bits, AllowsBy, Keeping}
use Rattle.matching.proofs.Upward.{upward-allows, downward-allows, choosable-allows, bit-allows, row-left-allows, variable-left-allows}
use Rattle.matching.proofs.Literals.{equate-allows, match-allows, apart-allows}
use Rattle.matching.proofs.Numbered.{table-ordered, entries-small}
use Rattle.matching.proofs.Listed.{collect, matched-list}
use Rattle.matching.proofs.Pruning.{guarded-keeps-all, told, then-keeping, times-keeping, keeping_at, steps-keep-all, steps_first, AllKeeping}

pub holds_at : (differs : ℕ → ℕ → Bool) (ns : List ℕ) (ls : List Literal) → all_hold_by differs ns ls ≡ true → (j : ℕ) → j < length ls → holds_by differs ns (literal_at ls j) ≡ true
unfolding all_hold_by
holds_at differs ns [] e j h = absurd (omega arith)
holds_at differs ns (l ∷ ls) e zero h = and-true-left (holds_by differs ns l) (all_hold_by differs ns ls) e
holds_at differs ns (l ∷ ls) e (suc j) h = holds_at differs ns ls (and-true-right (holds_by differs ns l) (all_hold_by differs ns ls) e) j (omega arith)

module _ (differs : ℕ → ℕ → Bool) (rows : List Row) (rep : ℕ → ℕ) (bound offset : ℕ) (k : Clause) where
  abbrev KeepingBy : (Possible → Possible) → Type 0
  KeepingBy = Keeping differs rows rep bound offset k

  abbrev ps : List Pattern
  ps = k.patterns

  abbrev ns : List ℕ → List ℕ
  ns a = numbers rows rep offset ps a

  -- ---- a step for each number below n

  pub rising-keeping : (step : ℕ → Possible → Possible) (n : ℕ) → ((j : ℕ) → j < n → KeepingBy (step j)) → KeepingBy (rising step n)
  unfolding rising
  rising-keeping step zero f = record { keeping = λ a m P w. w }
  rising-keeping step (suc n) f =
      record { keeping = λ a m P w. (f n (omega arith)).keeping a m (rising step n P) ((rising-keeping step n (λ j h. f j (omega arith))).keeping a m P w) }

  pub falling-keeping : (step : ℕ → Possible → Possible) (n : ℕ) → ((j : ℕ) → j < n → KeepingBy (step j)) → KeepingBy (falling step n)
  unfolding falling
  falling-keeping step zero f = record { keeping = λ a m P w. w }
  falling-keeping step (suc n) f =
      record { keeping = λ a m P w. (falling-keeping step n (λ j h. f j (omega arith))).keeping a m (step n P) ((f n (omega arith)).keeping a m P w) }

  module _ (table : Table rows rep bound offset) (placed : AllPlaced 0 k.patterns) where
    -- ---- the steps by a pattern row, or by a variable

    pub upward-keeping : (p : ℕ) → p < length k.patterns → KeepingBy (upward rows rep bound k.patterns p)
    upward-keeping p h =
        record { keeping = λ a m P w. upward-allows rows rep bound offset ps table a (ns a) (told differs rows rep bound offset k table placed a m) p h P w }

    pub downward-keeping : (p : ℕ) → p < length k.patterns → KeepingBy (downward rows rep bound k.patterns p)
    downward-keeping p h =
        record { keeping = λ a m P w. downward-allows rows rep bound offset ps table a (ns a) (told differs rows rep bound offset k table placed a m) p h P w }

    pub choosable-keeping : (p : ℕ) → p < length k.patterns → KeepingBy (choosable rows rep bound k.patterns p)
    choosable-keeping p h =
        record { keeping = λ a m P w. choosable-allows rows rep bound offset ps table a (ns a) (told differs rows rep bound offset k table placed a m) p h P w }

    pub bit-keeping : (bits : ℕ → ℕ → Bool) → Bits rows rep bits → (p : ℕ) → p < length k.patterns → KeepingBy (symbol_bit rows rep bound k.patterns bits p)
    bit-keeping bits b p h =
        record { keeping = λ a m P w. bit-allows rows rep bound offset ps table a (ns a) (told differs rows rep bound offset k table placed a m) bits b p h P w }

    pub row-left-keeping : (p : ℕ) → p < length k.patterns → KeepingBy (row_left rows rep bound k.patterns p)
    row-left-keeping p h =
        record { keeping = λ a m P w. row-left-allows rows rep bound offset ps table a (ns a) (told differs rows rep bound offset k table placed a m) p h P w }

    pub variable-left-keeping : (v : ℕ) → v < variables k.patterns → KeepingBy (variable_left rows rep bound k.patterns v)
    variable-left-keeping v h =
        record {
          keeping = λ a m P w.
              variable-left-allows rows rep bound offset ps table a (ns a) (told differs rows rep bound offset k table placed a m) v (omega (arith, m.0)) P w;
        }

    -- ---- the steps by a literal

    module _ (apart bits : ℕ → ℕ → Bool) (over : Over bound differs apart) where
      literal-allows : (l : Literal) → Names (length k.patterns) l → (a : List ℕ) → Sought differs rows rep offset k a → holds_by differs (ns a) l ≡ true
          → (P : Possible) → AllowsBy differs rows rep bound offset k P a → AllowsBy differs rows rep bound offset k (literal_step rows rep bound k apart bits l P) a
      unfolding literal_step holds_by
      literal-allows (equal p q) n a m e P w =
          equate-allows rows rep bound offset ps table a (ns a) (told differs rows rep bound offset k table placed a m) (length ps) p q n.0 n.1
          (eqb-true (number_at (ns a) p) (number_at (ns a) q) e)
          P
          w
      literal-allows (unequal p q) n a m e P w =
          apart-allows rows rep bound offset ps table a (ns a) (told differs rows rep bound offset k table placed a m) differs apart over p q n.0 n.1 e P w

      pub literal-keeping : NamesAll (length k.patterns) k.literals → (j : ℕ) → j < length k.literals
          → KeepingBy (literal_step rows rep bound k apart bits (literal_at k.literals j))
      unfolding breaks
      literal-keeping named j h =
          record {
            keeping = λ a m P w.
                literal-allows (literal_at k.literals j) (named-at (length ps) k.literals named j h) a m (holds_at differs (ns a) k.literals m.2 j h) P w;
          }

      -- the bits alone, without anything upward or downward
      pub match-keeping : Bits rows rep bits → NamesAll (length k.patterns) k.literals → (j p q : ℕ) → j < length k.literals
          → literal_at k.literals j ≡ equal p q → KeepingBy (match_bit rows rep bound k.patterns bits p q)
      unfolding breaks holds_by
      match-keeping symbols named j p q h e =
          record {
            keeping = λ a m P w.
                let n : Names (length ps) (equal p q) = rw e at (named-at (length ps) k.literals named j h) in
                let t : holds_by differs (ns a) (equal p q) ≡ true = rw e at (holds_at differs (ns a) k.literals m.2 j h) in
                match-allows rows rep bound offset ps table a (ns a) (told differs rows rep bound offset k table placed a m) bits symbols p q n.0 n.1
                (eqb-true (number_at (ns a) p) (number_at (ns a) q) t)
                P
                w;
          }

      -- ---- a round

      module _ (symbols : Bits rows rep bits) (named : NamesAll (length k.patterns) k.literals) where
        rise-keeping : (p : ℕ) → p < length ps → KeepingBy (rise rows rep bound k apart bits p)
        unfolding rise
        rise-keeping p h =
            then-keeping differs rows rep bound offset k (upward rows rep bound ps p) (symbol_bit rows rep bound ps bits p) (upward-keeping p h) (bit-keeping bits symbols p h)

        fall-keeping : (p : ℕ) → p < length ps → KeepingBy (fall rows rep bound k apart bits p)
        unfolding fall
        fall-keeping p h =
            then-keeping differs rows rep bound offset k (λ P. choosable rows rep bound ps p (downward rows rep bound ps p P)) (row_left rows rep bound ps p)
            (then-keeping differs rows rep bound offset k (downward rows rep bound ps p) (choosable rows rep bound ps p) (downward-keeping p h) (choosable-keeping p h))
            (row-left-keeping p h)

        pub round-keeping : KeepingBy (round rows rep bound k apart bits)
        unfolding round
        round-keeping =
            then-keeping differs rows rep bound offset k
            (λ P. rising cut_by (length k.literals) (rising (rise rows rep bound k apart bits) (length ps) P))
            (falling (fall rows rep bound k apart bits) (length ps))
            (then-keeping differs rows rep bound offset k (rising (rise rows rep bound k apart bits) (length ps)) (rising cut_by (length k.literals))
            (rising-keeping (rise rows rep bound k apart bits) (length ps) rise-keeping)
            (rising-keeping cut_by (length k.literals) (literal-keeping named)))
            (falling-keeping (fall rows rep bound k apart bits) (length ps) fall-keeping)
          where
            cut_by : ℕ → Possible → Possible
            cut_by j = literal_step rows rep bound k apart bits (literal_at k.literals j)

        -- ---- the search, with n rounds before each choice; n may depend on the choice and the box

        module _ (n : List ℕ → Box → ℕ) where
          abbrev steps : List ℕ → Box → List (Possible → Possible)
          steps = rounds rows rep bound k apart bits n

          each : (chosen : List ℕ) (box : Box) → AllKeeping differs rows rep bound offset k chosen (steps chosen box)
          unfolding rounds
          each chosen box = (
            keeping_at differs rows rep bound offset k (times (n chosen box) (round rows rep bound k apart bits))
                (times-keeping differs rows rep bound offset k (n chosen box) (round rows rep bound k apart bits) round-keeping)
                chosen,
            tt,
          )

          pub rounds-keep-all : KeepsAll (Sought differs rows rep offset k) (starts rows rep) (pruned_by (possible_by (rounds rows rep bound k apart bits n)))
          rounds-keep-all = steps-keep-all differs rows rep bound offset k table placed steps each

          pub rounds-first : search (dead_now differs rows rep offset k) (pruned_by (possible_by (rounds rows rep bound k apart bits n))) (variables k.patterns) [] (start_box rows rep k)
              ≡ first_by differs rows rep offset k
          rounds-first = steps_first differs rows rep bound offset k table placed steps each

-- ---- any table at all: where an entry does not fit into the sets, nothing is pruned

module _ (differs apart bits : ℕ → ℕ → Bool) (rows : List Row) (rep : ℕ → ℕ) (bound offset : ℕ) (k : Clause) (low : bound ≤ offset) (ordered : Ordered rows)
    (placed : AllPlaced 0 k.patterns) (named : NamesAll (length k.patterns) k.literals) (over : Over bound differs apart) (symbols : Bits rows rep bits)
    (n : List ℕ → Box → ℕ) where
  abbrev pub anyway : List ℕ → Box → Box
  anyway = guarded (entries_below rep bound (length rows)) (pruned_by (possible_by (rounds rows rep bound k apart bits n)))

  pub anyway-keeps-all : KeepsAll (Sought differs rows rep offset k) (starts rows rep) anyway
  anyway-keeps-all =
      guarded-keeps-all (Sought differs rows rep offset k) (starts rows rep) (entries_below rep bound (length rows)) (pruned_by (possible_by (rounds rows rep bound k apart bits n)))
      (λ e. rounds-keep-all differs rows rep bound offset k (table-ordered rows rep bound offset low (entries-small rep bound (length rows) e) ordered) placed apart bits over
      symbols
      named
      n)

  pub anyway-first : search (dead_now differs rows rep offset k) anyway (variables k.patterns) [] (start_box rows rep k) ≡ first_by differs rows rep offset k
  anyway-first = due-first differs rows rep offset k anyway (keeps-all-covers anyway-keeps-all)

  pub anyway-list : collect (dead differs rows rep offset k) anyway (variables k.patterns) [] (start_box rows rep k) ≡ every_by differs rows rep offset k
  anyway-list = matched-list differs rows rep offset k anyway anyway-keeps-all

-- ---- two tests of what differs

-- a number that is no row differs from nothing; the wider test itself, or any that passes more, will do
pub differ-over : (c : Context) (bound : ℕ) → length c.rows ≤ bound → Over bound (differ_by c) (differ_by c)
unfolding differ_by
differ-over c bound h =
    record {
      over = λ n m e.
          let one : Bool = ltb n (length c.rows) in
          let two : Bool = ltb m (length c.rows) in
          let f : Bool = follows_by (rep_at (close c.rows ((n, m) ∷ equations c))) (differences c) in
          let w : (one && two) ≡ true = and-true-left (one && two) f e in (
            omega (arith, ltb-true n (length c.rows) (and-true-left one two w)),
            omega (arith, ltb-true m (length c.rows) (and-true-right one two w)),
            e,
          );
    }

apart-sides : (rep : ℕ → ℕ) (ds : List (ℕ × ℕ)) (bound : ℕ) → ((i : ℕ) → i < length ds → (rep (left_at ds i) < bound) × (rep (right_at ds i) < bound))
    → (n m : ℕ) → apart_by rep ds n m ≡ true → (n < bound) × (m < bound)
unfolding apart_by
apart-sides rep [] bound f n m e = false-true e refl
apart-sides rep (d ∷ ds) bound f n m e =
    ⊎_elim (⊎_elim (λ w. here w) (λ w. turned w)) (λ w. apart-sides rep ds bound (λ i h. f (suc i) (omega arith)) n m w)
    (mapped (or_cases (one || two) (apart_by rep ds n m) e))
  where
    one : Bool
    one = eqb n (rep d.0) && eqb m (rep d.1)

    two : Bool
    two = eqb m (rep d.0) && eqb n (rep d.1)

    mapped : ((one || two) ≡ true) ⊎ (apart_by rep ds n m ≡ true) → ((one ≡ true) ⊎ (two ≡ true)) ⊎ (apart_by rep ds n m ≡ true)
    mapped (inl w) = inl (or_cases one two w)
    mapped (inr w) = inr w

    here : one ≡ true → (n < bound) × (m < bound)
    here w = (
      omega (arith, (f 0 (omega arith)).0, eqb-true n (rep d.0) (and-true-left (eqb n (rep d.0)) (eqb m (rep d.1)) w)),
      omega (arith, (f 0 (omega arith)).1, eqb-true m (rep d.1) (and-true-right (eqb n (rep d.0)) (eqb m (rep d.1)) w)),
    )

    turned : two ≡ true → (n < bound) × (m < bound)
    turned w = (
      omega (arith, (f 0 (omega arith)).1, eqb-true n (rep d.1) (and-true-right (eqb m (rep d.0)) (eqb n (rep d.1)) w)),
      omega (arith, (f 0 (omega arith)).0, eqb-true m (rep d.0) (and-true-left (eqb m (rep d.0)) (eqb n (rep d.1)) w)),
    )

-- where the sides of each stated difference have entries below the bound
pub apart-over : (rep : ℕ → ℕ) (ds : List (ℕ × ℕ)) (bound : ℕ) → ((i : ℕ) → i < length ds → (rep (left_at ds i) < bound) × (rep (right_at ds i) < bound))
    → Over bound (apart_by rep ds) (apart_by rep ds)
apart-over rep ds bound f =
    record { over = λ n m e. ((apart-sides rep ds bound f n m e).0, (apart-sides rep ds bound f n m e).1, e) }

-- any test that passes more
pub over-more : (bound : ℕ) (differs apart more : ℕ → ℕ → Bool) → ((n m : ℕ) → n < bound → m < bound → apart n m ≡ true → more n m ≡ true)
    → Over bound differs apart → Over bound differs more
over-more bound differs apart more f o =
    record { over = λ n m e. ((o.over n m e).0, (o.over n m e).1, f n m (o.over n m e).0 (o.over n m e).1 (o.over n m e).2) }
