-- Steps that the writer makes follow, and show what they are made for.
--     Run, shared-run            whose steps are written from some step on; all are shared
--     Steps, Shows               a column whose steps all follow; step s, which the owner may use, is x = y, by the terms of two entries
--     Grown, Made                a column with some steps more; and with a step for two entries
--     reflexive-made .. added-made   a step of each kind
--     turned-made, linked-made   y = x by x = y; x = y by x = m and m = y
--     steps-owned, shows-owned   shared steps are steps of a run after them, and show what they showed
-- Assumes nothing.
use mathlib.Core.Bool.{Bool, true, false}
use mathlib.Core.List.{List, [], ◌∷◌, ◌++◌}
use mathlib.Core.Path.{◌≡◌, refl, ap, ap₂, sym, ◌∙◌, subst}
use Prim.Native.Nat.{ℕ, suc, ◌+◌, ◌-◌, ◌≤◌, ◌<◌}
use native.Mathlib.Omega.{arith}
use lib.Dec.{eqb, ltb}
use borrow.Author.Tests.{eqb-true, ltb-true, ltb-false}
use lib.ListN.{length, get_or}
use Rattle.meaning.specs.Context.{Term, node, more, Row, row_at, pick, terms, term_at, Context, equations}
use Rattle.meaning.specs.Rules.{Clause, Below}
use Rattle.meaning.specs.Formed.{Ordered}
use Rattle.meaning.specs.Values.{number_at, args_of}
use Rattle.meaning.specs.Grounds.{Step, PairAt, Stands, for-row, for-instance, Cites, UnequalAt, CitesEach, each-stop, each_more, Derives, by-statement, by-reflexivity, by-symmetry, by-transitivity, by-congruence, by-addition, Owner, shared, Follows}
use Rattle.meaning.specs.Checking.{entries, key_of}
use Rattle.meaning.proofs.Lists.{below_wider}
use Rattle.meaning.proofs.Table.{term-at}
use Rattle.meaning.proofs.Entries.{entry_row, entry-instance, entries-ordered, length-entries}
use Rattle.meaning.proofs.Cited.{Ready, entry-is}
use Rattle.grounds_steps.specs.Steps.{most_each}
use Rattle.grounds_laws.specs.Limits.{draft_run}
use Rattle.grounds_laws.specs.Draft.{ref_of, step_of, count_in, draft_to, draft, Written, pushed, turned, linked}
use Rattle.grounds_laws.proofs.Drafts.{Under, under-self, under-then, under-draft, owner-own, Follow, follow-snoc, cites-snoc, cites-last, cites-shared, draft-pushed, pushed-under, length-pushed, count-pushed, number_pushed, length-draft}

-- the first `from` steps are shared, and each later one is the owner's
pub record Run (c : Context) (k : Clause) (a : List ℕ) : Type 0 where
  pub from : ℕ
  pub owner : ℕ
  pub owns : Owner c k a owner

abbrev pub shared-run : (c : Context) (k : Clause) (a : List ℕ) → Run c k a
shared-run c k a = record { from = 0; owner = 0; owns = shared refl }

module _ (c : Context) (k : Clause) (a : List ℕ) (ns : List ℕ) (ready : Ready c k a ns) where
  abbrev pub rows : ℕ
  rows = length c.rows

  abbrev pub all : ℕ
  all = length c.rows + length k.patterns

  abbrev pub table : List Row
  table = entries c.rows a k.patterns

  abbrev pub term : ℕ → Term
  term x = term_at table x

  -- ---- entries

  pub ordered : Ordered table
  ordered = entries-ordered c.rows a k.patterns ready.formed.fit.ordered ready.formed.placed ready.chosen

  pub number-term : (x : ℕ) → x < all → term (number_at ns x) ≡ term x
  number-term x h = (entry-is c k a ns ready x h).term

  pub number-inside : (x : ℕ) → x < all → number_at ns x < all
  number-inside x h = (entry-is c k a ns ready x h).inside

  pub stands-entry : (x : ℕ) → x < all → Stands c k a (ref_of rows x) (term x)
  unfolding ref_of
  stands-entry x h = go (ltb x rows) refl
    where
      go : (b : Bool) → ltb x rows ≡ b → Stands c k a (ref_of rows x) (term x)
      go true e =
          let l : x < rows = ltb-true x rows e in
          rw (e, ref_of) (for-row refl l (entry_row c.rows a ready.formed.fit.ordered k.patterns ready.chosen x l))
      go false e =
          let l : rows ≤ x = ltb-false x rows e in
          let z : x ≡ rows + (x - rows) = omega arith in
          rw (e, ref_of)
          (for-instance refl (omega arith)
          (ap term z ∙ entry-instance c.rows a ready.formed.fit.ordered k.patterns ready.chosen (x - rows)))

  pick-numbers : (l : List ℕ) → Below all l → pick (terms table) (args_of ns l) ≡ pick (terms table) l
  unfolding pick
  pick-numbers [] b = refl
  pick-numbers (p ∷ l) b = ap₂ more (number-term p b.0) (pick-numbers l b.1)

  entry-node : (z : ℕ) → z < all → term z ≡ node (row_at table z).symbol (pick (terms table) (key_of ns (row_at table z)).args)
  unfolding key_of
  entry-node z h =
      let l : z < length table = omega (arith, length-entries c.rows a k.patterns) in
      term-at table ordered z l
      ∙ ap (node (row_at table z).symbol)
      (sym (pick-numbers (row_at table z).args (below_wider z all (row_at table z).args (omega arith) (ordered z l))))

  -- ---- columns of a run

  module _ (run : Run c k a) where
    abbrev pub steps : List ℕ → List Step
    steps cells = draft rows run.from run.owner cells

    pub record Steps (cells : List ℕ) : Type 0 where
      pub follow : Follow c k a (steps cells)
      pub long : length cells ≡ draft_run
      pub past : run.from ≤ count_in cells

    abbrev pub Shows : List ℕ → ℕ → ℕ → ℕ → Type 0
    Shows cells s x y = Cites c k a (steps cells) run.owner s (term x) (term y)

    -- up to j steps more
    pub record Grown (before after : List ℕ) (j : ℕ) : Type 0 where
      pub good : Steps after
      pub keeps : (s : ℕ) (t u : Term) → Cites c k a (steps before) run.owner s t u → Cites c k a (steps after) run.owner s t u
      pub more : count_in after ≤ count_in before + j
      pub least : count_in before ≤ count_in after
      pub under : Under (count_in before) before after

    pub record Made (before : List ℕ) (w : Written) (j x y : ℕ) : Type 0 where
      pub grown : Grown before w.cells j
      pub shows : Shows w.cells w.number x y

    pub grown-none : (cells : List ℕ) → Steps cells → (j : ℕ) → Grown cells cells j
    grown-none cells w j = record { good = w; keeps = λ s t u h. h; more = omega arith; least = omega arith; under = under-self (count_in cells) cells }

    pub grown-then : {before middle after : List ℕ} {i j : ℕ} → Grown before middle i → Grown middle after j → Grown before after (i + j)
    grown-then p q =
        record {
          good = q.good;
          keeps = λ s t u h. q.keeps s t u (p.keeps s t u h);
          more = omega (arith, p.more, q.more);
          least = omega (arith, p.least, q.least);
          under = under-then p.least p.under q.under;
        }

    pub grown-most : {before after : List ℕ} {i : ℕ} (j : ℕ) → i ≤ j → Grown before after i → Grown before after j
    grown-most j h g = record { good = g.good; keeps = g.keeps; more = omega (arith, g.more); least = g.least; under = g.under }

    -- ---- a step of each kind

    module _ (cells : List ℕ) (w : Steps cells) (room : count_in cells < most_each) (x y : ℕ) (hx : x < all) (hy : y < all) where
      push-made : (kind p q r s : ℕ) → Derives c k a (steps cells) (step_of rows run.owner kind x y (p ∷ q ∷ r ∷ s ∷ [])) (term x) (term y)
          → Made cells (pushed cells kind x y p q r s) 1 x y
      unfolding step_of
      push-made kind p q r s d =
          record {
            grown = record {
              good = record {
                follow = rw e (follow-snoc c k a (steps cells) step w.follow f);
                long = length-pushed rows from owner cells kind x y p q r s w.long room;
                past = omega (arith, w.past, counted);
              };
              keeps = λ n t u h. rw e (cites-snoc c k a step h);
              more = omega (arith, counted);
              least = omega (arith, counted);
              under = pushed-under rows from owner cells kind x y p q r s w.long room;
            };
            shows = rw (e, number_pushed rows from owner cells kind x y p q r s w.long room, sym (length-draft rows from owner cells))
                (cites-last c k a (steps cells) step (term x) (term y) (stands-entry x hx) (stands-entry y hy));
          }
        where
          from : ℕ
          from = run.from

          owner : ℕ
          owner = run.owner

          step : Step
          step = step_of rows owner kind x y (p ∷ q ∷ r ∷ s ∷ [])

          f : Follows c k a (steps cells) step
          f =
              record {
                owner = run.owns;
                left_term = term x;
                right_term = term y;
                left = stands-entry x hx;
                right = stands-entry y hy;
                derives = d;
              }

          counted : count_in (pushed cells kind x y p q r s).cells ≡ suc (count_in cells)
          counted = count-pushed rows from owner cells kind x y p q r s w.long room

          e : steps (pushed cells kind x y p q r s).cells ≡ steps cells ++ (step ∷ [])
          e =
              draft-pushed rows from owner cells kind x y p q r s w.long room
              ∙ ap (λ (o : ℕ). steps cells ++ (step_of rows o kind x y (p ∷ q ∷ r ∷ s ∷ []) ∷ [])) (owner-own from owner (count_in cells) w.past)

      pub reflexive-made : term x ≡ term y → Made cells (pushed cells 2 x y 0 0 0 0) 1 x y
      unfolding step_of
      reflexive-made e =
          push-made 2 0 0 0 0
          (by-reflexivity refl e)

      pub stated-made : (n : ℕ) → PairAt c.rows (equations c) n (term x) (term y) → Made cells (pushed cells 1 x y n 0 0 0) 1 x y
      unfolding step_of
      stated-made n e =
          push-made 1 n 0 0 0
          (by-statement refl e)

      pub symmetric-made : (s : ℕ) → Shows cells s y x → Made cells (pushed cells 3 x y s 0 0 0) 1 x y
      unfolding step_of
      symmetric-made s e =
          push-made 3 s 0 0 0
          (by-symmetry refl e)

      pub transitive-made : (s t m : ℕ) → Shows cells s x m → Shows cells t m y → Made cells (pushed cells 4 x y s t 0 0) 1 x y
      unfolding step_of
      transitive-made s t m e f =
          push-made 4 s t 0 0
          (by-transitivity refl (term m) e f)

      each-cited : (ls rs qs : List ℕ) → length ls ≡ length rs → length ls ≤ length qs
          → ((i : ℕ) → i < length ls → Shows cells (get_or qs i 0) (get_or ls i 0) (get_or rs i 0))
          → CitesEach c k a (steps cells) run.owner qs (pick (terms table) ls) (pick (terms table) rs)
      unfolding pick
      each-cited [] [] qs e h f = each-stop
      each-cited [] (r ∷ rs) qs e h f = absurd (omega arith)
      each-cited (l ∷ ls) [] qs e h f = absurd (omega arith)
      each-cited (l ∷ ls) (r ∷ rs) [] e h f = absurd (omega arith)
      each-cited (l ∷ ls) (r ∷ rs) (q ∷ qs) e h f =
          each_more (f 0 (omega arith)) (each-cited ls rs qs (omega arith) (omega arith) (λ i b. f (suc i) (omega arith)))

      -- by keys, whose arguments are numbers
      pub congruent-made : (p q r s : ℕ) → (row_at table x).symbol ≡ (row_at table y).symbol
          → length (key_of ns (row_at table x)).args ≡ length (key_of ns (row_at table y)).args
          → length (key_of ns (row_at table x)).args ≤ 4
          → ((i : ℕ) → i < length (key_of ns (row_at table x)).args
          → Shows cells (get_or (p ∷ q ∷ r ∷ s ∷ []) i 0) (get_or (key_of ns (row_at table x)).args i 0) (get_or (key_of ns (row_at table y)).args i 0))
          → Made cells (pushed cells 5 x y p q r s) 1 x y
      unfolding step_of
      congruent-made p q r s e f h g =
          push-made 5 p q r s
          (by-congruence refl (row_at table x).symbol _ _ (entry-node x hx)
          (entry-node y hy ∙ ap (λ (z : ℕ). node z (pick (terms table) (key_of ns (row_at table y)).args)) (sym e))
          (each-cited _ _ (p ∷ q ∷ r ∷ s ∷ []) f h g))

      -- the equation of the owner, an unequal literal
      pub added-made : UnequalAt c k a run.owner (term x) (term y) → Made cells (pushed cells 6 x y 0 0 0 0) 1 x y
      unfolding step_of
      added-made e = push-made 6 0 0 0 0 (by-addition refl e)

    -- ---- steps of steps

    pub turned-made : (cells : List ℕ) → Steps cells → count_in cells < most_each → (s x y : ℕ) → x < all → y < all → Shows cells s x y → Made cells (turned cells s x y) 1 y x
    unfolding turned
    turned-made cells w room s x y hx hy e = go (eqb x y) refl
      where
        go : (b : Bool) → eqb x y ≡ b → Made cells (turned cells s x y) 1 y x
        go true q =
            let z : x ≡ y = eqb-true x y q in
            rw (q, turned) (record { grown = grown-none cells w 1; shows = subst (λ (i : ℕ). Shows cells s i x) z (subst (λ (i : ℕ). Shows cells s x i) (sym z) e) })
        go false q = rw (q, turned) (symmetric-made cells w room y x hy hx s e)

    pub linked-made : (cells : List ℕ) → Steps cells → count_in cells < most_each → (s t x m y : ℕ) → x < all → y < all → Shows cells s x m → Shows cells t m y
        → Made cells (linked cells s t x m y) 1 x y
    unfolding linked
    linked-made cells w room s t x m y hx hy e f = go (eqb x m) (eqb m y) refl refl
      where
        go : (b d : Bool) → eqb x m ≡ b → eqb m y ≡ d → Made cells (linked cells s t x m y) 1 x y
        go true d p q = rw (p, linked) (record { grown = grown-none cells w 1; shows = subst (λ (i : ℕ). Shows cells t i y) (sym (eqb-true x m p)) f })
        go false true p q = rw (p, linked, q) (record { grown = grown-none cells w 1; shows = subst (λ (i : ℕ). Shows cells s x i) (eqb-true m y q) e })
        go false false p q = rw (p, linked, q) (transitive-made cells w room x y hx hy s t m e f)

    -- ---- shared steps for an owner

    -- a column that begins with all the shared steps of another, and counts no others
    module _ (cells other : List ℕ) (all-shared : count_in cells ≡ run.from) (no-others : count_in other ≡ run.from) (under : Under run.from cells other) where
      resumed : steps other ≡ draft rows 0 0 cells
      unfolding draft
      resumed =
          ap (draft_to rows run.from run.owner other) no-others
          ∙ under-draft rows run.from run.owner cells other under
          ∙ ap (draft_to rows 0 0 cells) (sym all-shared)

      pub steps-owned : Follow c k a (draft rows 0 0 cells) → length cells ≡ draft_run → Steps other
      steps-owned w l = record { follow = rw resumed w; long = under.long ∙ l; past = omega (arith, no-others) }

      pub shows-owned : (s x y : ℕ) → Cites c k a (draft rows 0 0 cells) 0 s (term x) (term y) → Shows other s x y
      shows-owned s x y w = rw resumed (cites-shared c k a run.owner w)
