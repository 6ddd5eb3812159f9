-- A pass over each two entries, and passes till one writes no step.
--     congruence-made   x = y by their arguments, in at most 9 steps
--     passed-outcome    a pass changes nothing, and the classes are closed under congruence; or it writes a step
--     rounds-closed     when the passes end, they are
-- Assumes nothing.
use mathlib.Core.Bool.{Bool, true, false}
use mathlib.Core.List.{List, [], ◌∷◌, map}
use mathlib.Core.Path.{◌≡◌, refl, ap, sym, ◌∙◌, subst}
use mathlib.Core.Logic.{⊎_elim}
use Prim.Native.Nat.{ℕ, zero, suc, ◌+◌, ◌≤◌, ◌<◌}
use native.Mathlib.Omega.{arith}
use lib.Dec.{eqb, ltb}
use borrow.Author.Tests.{eqb-true, eqb-false, ltb-true, ltb-false}
use lib.ListN.{length, get_or}
use Rattle.meaning.specs.Context.{Row, row_at, Context}
use Rattle.meaning.specs.Rules.{Clause, Below}
use Rattle.meaning.specs.Values.{number_at, args_of}
use Rattle.meaning.specs.ByTable.{same_list}
use Rattle.meaning.specs.Checking.{key_of}
use Rattle.meaning.proofs.Logic.{and-true-left, and-true-right, false-true}
use Rattle.meaning.proofs.Lists.{below_wider, below_at, same_list-true}
use Rattle.meaning.proofs.Entries.{length-entries, length-map, map_at}
use Rattle.meaning.proofs.Cited.{Ready}
use Rattle.grounds_numbers.specs.Limits.{most_entries}
use Rattle.grounds_steps.specs.Steps.{most_each}
use Rattle.grounds_laws.specs.Draft.{count_in, Written, pushed}
use Rattle.grounds_laws.specs.Classes.{label_in, State, same, state_of}
use Rattle.grounds_laws.specs.Rounds.{argued, congruent_by, congruence, united, paired_apart, paired, row_passed, passed, rounds, alike}
use Rattle.grounds_laws.proofs.Drafts.{Under, under-then, count-pushed}
use Rattle.grounds_laws.proofs.Builds.{Run, all, table, Shows, Grown, Made, grown-none, grown-then, grown-most, number-inside, ordered, congruent-made}
use Rattle.grounds_laws.proofs.Joins.{Sound, sound-grown, same-made}
use Rattle.grounds_laws.proofs.Payments.{paid-most}
use Rattle.grounds_laws.proofs.Outcomes.{Going, Outcome, unchanged, upto-outcome, join-outcome}

-- what two entries have to be for their labels to be one
pub record Met (ks : List Row) (x y : ℕ) (state : State) : Type 0 where
  pub met : alike ks state.table x y ≡ true → label_in state.table x ≡ label_in state.table y

module _ (c : Context) (k : Clause) (a : List ℕ) (ns : List ℕ) (ready : Ready c k a ns) (few : length c.rows + length k.patterns ≤ most_entries) where
  abbrev N : ℕ
  N = all c k a ns ready

  abbrev entry : ℕ → Row
  entry x = row_at (table c k a ns ready) x

  abbrev key_args : ℕ → List ℕ
  key_args x = args_of ns (entry x).args

  -- the keys of all entries, with at most four arguments
  pub record Keys (ks : List Row) : Type 0 where
    pub keys : (x : ℕ) → x < N → row_at ks x ≡ key_of ns (entry x)
    pub four : (x : ℕ) → x < N → length (entry x).args ≤ 4

  -- ---- arguments

  pub args-below : (x : ℕ) → x < N → Below N (entry x).args
  args-below x h =
      below_wider x N (entry x).args (omega arith) (ordered c k a ns ready x (omega (arith, length-entries c.rows a k.patterns)))

  arg-at : (x i : ℕ) → i < length (key_args x) → get_or (key_args x) i 0 ≡ number_at ns (get_or (entry x).args i 0)
  arg-at x i h = map_at (number_at ns) (entry x).args i 0 0 (omega (arith, length-map (number_at ns) (entry x).args))

  arg-below : (x : ℕ) → x < N → (i : ℕ) → i < length (key_args x) → get_or (entry x).args i 0 < N
  arg-below x h i l = below_at N (entry x).args (args-below x h) i (omega (arith, length-map (number_at ns) (entry x).args))

  arg-inside : (x : ℕ) → x < N → (i : ℕ) → i < length (key_args x) → get_or (key_args x) i 0 < N
  arg-inside x h i l = rw (arg-at x i l) (number-inside c k a ns ready (get_or (entry x).args i 0) (arg-below x h i l))

  arg-own : (x : ℕ) → x < N → (i : ℕ) → i < length (key_args x) → number_at ns (get_or (key_args x) i 0) ≡ get_or (key_args x) i 0
  arg-own x h i l = rw (arg-at x i l) (ready.faithful.settled (get_or (entry x).args i 0) (arg-below x h i l))

  -- ---- keys with labels

  map-lengths : (label : ℕ → ℕ) (l m : List ℕ) → map label l ≡ map label m → length l ≡ length m
  map-lengths label l m e = sym (length-map label l) ∙ ap length e ∙ length-map label m

  map_each : (label : ℕ → ℕ) (l m : List ℕ) → map label l ≡ map label m → (i : ℕ) → i < length l → label (get_or l i 0) ≡ label (get_or m i 0)
  map_each label l m e i h =
      sym (map_at label l i 0 0 h) ∙ ap (λ (z : List ℕ). get_or z i 0) e ∙ map_at label m i 0 0 (omega (arith, map-lengths label l m e))

  module _ (run : Run c k a) where
    -- ---- a step by congruence

    module _ (state : State) (w : Sound c k a ns ready run state) (x y : ℕ) (hx : x < N) (hy : y < N) (long : length (key_args x) ≡ length (key_args y))
        (alike : (i : ℕ) → i < length (key_args x) → label_in state.table (get_or (key_args x) i 0) ≡ label_in state.table (get_or (key_args y) i 0)) where
      -- up to two steps more, and argument i is shown where it is there
      record Argued (before : List ℕ) (i : ℕ) (u : Written) : Type 0 where
        grown : Grown c k a ns ready run before u.cells 2
        shows : i < length (key_args x) → Shows c k a ns ready run u.cells u.number (get_or (key_args x) i 0) (get_or (key_args y) i 0)

      argued-made : (cells : List ℕ) (j : ℕ) → Grown c k a ns ready run state.cells cells j → count_in cells + 2 ≤ most_each → (i : ℕ)
          → Argued cells i (argued cells state.table (key_args x) (key_args y) i)
      unfolding argued
      argued-made cells j g room i = go (ltb i (length (key_args x))) refl
        where
          middle : State
          middle = state_of cells state.table

          go : (b : Bool) → ltb i (length (key_args x)) ≡ b → Argued cells i (argued cells state.table (key_args x) (key_args y) i)
          go true e =
              let l : i < length (key_args x) = ltb-true i (length (key_args x)) e in
              let m : Made c k a ns ready run cells (same cells state.table (get_or (key_args x) i 0) (get_or (key_args y) i 0)) 2 (get_or (key_args x) i 0) (get_or (key_args y) i 0) =
              same-made c k a ns ready run middle (sound-grown c k a ns ready run state w cells j g) (get_or (key_args x) i 0) (get_or (key_args y) i 0) (omega (arith, arg-inside x hx i l)) (arg-inside x hx i l)
              (arg-inside y hy i (omega arith))
              (arg-own x hx i l)
              (alike i l)
              room in
              rw (e, argued) (record { grown = m.grown; shows = λ z. m.shows })
          go false e =
              rw (e, argued)
              (record { grown = grown-none c k a ns ready run cells g.good 2; shows = λ z. absurd (omega (arith, ltb-false i (length (key_args x)) e)) })

      congruence-made : (entry x).symbol ≡ (entry y).symbol → length (key_args x) ≤ 4 → count_in state.cells + 9 ≤ most_each
          → Made c k a ns ready run state.cells (congruence state.cells state.table (key_args x) (key_args y) x y) 9 x y
          × (count_in state.cells < count_in (congruence state.cells state.table (key_args x) (key_args y) x y).cells)
      unfolding congruence congruent_by key_of
      congruence-made e four room = (
        record { grown = grown-most c k a ns ready run 9 (omega arith) (grown-then c k a ns ready run g₃ m.grown); shows = m.shows },
        omega (arith, g₃.least, count-pushed (length c.rows) run.from run.owner w₃.cells 5 x y w₀.number w₁.number w₂.number w₃.number g₃.good.long (omega (arith, g₃.more))),
      )
        where
          w₀ : Written
          w₀ = argued state.cells state.table (key_args x) (key_args y) 0

          a₀ : Argued state.cells 0 w₀
          a₀ = argued-made state.cells 0 (grown-none c k a ns ready run state.cells w.good 0) (omega arith) 0

          w₁ : Written
          w₁ = argued w₀.cells state.table (key_args x) (key_args y) 1

          a₁ : Argued w₀.cells 1 w₁
          a₁ = argued-made w₀.cells 2 a₀.grown (omega (arith, a₀.grown.more)) 1

          g₁ : Grown c k a ns ready run state.cells w₁.cells 4
          g₁ = grown-then c k a ns ready run a₀.grown a₁.grown

          w₂ : Written
          w₂ = argued w₁.cells state.table (key_args x) (key_args y) 2

          a₂ : Argued w₁.cells 2 w₂
          a₂ = argued-made w₁.cells 4 g₁ (omega (arith, g₁.more)) 2

          g₂ : Grown c k a ns ready run state.cells w₂.cells 6
          g₂ = grown-then c k a ns ready run g₁ a₂.grown

          w₃ : Written
          w₃ = argued w₂.cells state.table (key_args x) (key_args y) 3

          a₃ : Argued w₂.cells 3 w₃
          a₃ = argued-made w₂.cells 6 g₂ (omega (arith, g₂.more)) 3

          g₃ : Grown c k a ns ready run state.cells w₃.cells 8
          g₃ = grown-then c k a ns ready run g₂ a₃.grown

          shown : (i : ℕ) → i < length (key_args x)
              → Shows c k a ns ready run w₃.cells (get_or (w₀.number ∷ w₁.number ∷ w₂.number ∷ w₃.number ∷ []) i 0) (get_or (key_args x) i 0) (get_or (key_args y) i 0)
          shown zero l = a₃.grown.keeps _ _ _ (a₂.grown.keeps _ _ _ (a₁.grown.keeps _ _ _ (a₀.shows l)))
          shown (suc zero) l = a₃.grown.keeps _ _ _ (a₂.grown.keeps _ _ _ (a₁.shows l))
          shown (suc (suc zero)) l = a₃.grown.keeps _ _ _ (a₂.shows l)
          shown (suc (suc (suc zero))) l = a₃.shows l
          shown (suc (suc (suc (suc i)))) l = absurd (omega arith)

          m : Made c k a ns ready run w₃.cells (pushed w₃.cells 5 x y w₀.number w₁.number w₂.number w₃.number) 1 x y
          m =
              congruent-made c k a ns ready run w₃.cells g₃.good (omega (arith, g₃.more)) x y hx hy w₀.number w₁.number w₂.number w₃.number e long four
              shown

    -- ---- a pass

    module _ (ks : List Row) (keyed : Keys ks) where
      paired-outcome : (x y : ℕ) → x < N → y < N → (state : State) → Going c k a ns ready few run state → Outcome c k a ns ready few run (Met ks x y) state (paired N ks x y state)
      unfolding paired paired_apart united alike key_of
      paired-outcome x y hx hy state g = go (eqb (label_in state.table x) (label_in state.table y)) refl (alike ks state.table x y) refl
        where
          go : (b : Bool) → eqb (label_in state.table x) (label_in state.table y) ≡ b → (d : Bool) → alike ks state.table x y ≡ d
              → Outcome c k a ns ready few run (Met ks x y) state (paired N ks x y state)
          go true e d f = rw (e, paired) (unchanged c k a ns ready few run state g (record { met = λ z. eqb-true _ _ e }))
          go false e false f = rw (e, paired, f, paired_apart) (unchanged c k a ns ready few run state g (record { met = λ z. false-true z f }))
          go false e true f =
              rw (e, paired, f, paired_apart, keyed.keys x hx, keyed.keys y hy)
              (join-outcome c k a ns ready few run state g x y hx hy (eqb-false _ _ e) (congruence state.cells state.table (key_args x) (key_args y) x y) made.0 made.1
              ).outcome
            where
              s : Bool
              s = eqb (row_at ks x).symbol (row_at ks y).symbol

              l : Bool
              l = same_list (map (label_in state.table) (row_at ks x).args) (map (label_in state.table) (row_at ks y).args)

              symbols : (entry x).symbol ≡ (entry y).symbol
              symbols =
                  sym (ap (λ (r : Row). r.symbol) (keyed.keys x hx)) ∙ eqb-true _ _ (and-true-left s l f) ∙ ap (λ (r : Row). r.symbol) (keyed.keys y hy)

              labels : map (label_in state.table) (key_args x) ≡ map (label_in state.table) (key_args y)
              labels =
                  sym (ap (λ (r : Row). map (label_in state.table) r.args) (keyed.keys x hx))
                  ∙ same_list-true _ _ (and-true-right s l f)
                  ∙ ap (λ (r : Row). map (label_in state.table) r.args) (keyed.keys y hy)

              made : Made c k a ns ready run state.cells (congruence state.cells state.table (key_args x) (key_args y) x y) 9 x y
                  × (count_in state.cells < count_in (congruence state.cells state.table (key_args x) (key_args y) x y).cells)
              made =
                  congruence-made state g.sound x y hx hy (map-lengths (label_in state.table) (key_args x) (key_args y) labels)
                  (map_each (label_in state.table) (key_args x) (key_args y) labels)
                  symbols
                  (omega (arith, length-map (number_at ns) (entry x).args, keyed.four x hx))
                  (omega (arith, paid-most N (label_in state.table) (count_in state.cells) few g.paid))

      pub passed-outcome : (state : State) → Going c k a ns ready few run state
          → Outcome c k a ns ready few run (λ s. (x : ℕ) → x < N → (y : ℕ) → y < x → Met ks x y s) state (passed N ks state)
      unfolding passed row_passed
      passed-outcome state g =
          upto-outcome c k a ns ready few run N (row_passed N ks) (λ x s. (y : ℕ) → y < x → Met ks x y s)
          (λ x hx s gs. upto-outcome c k a ns ready few run x (paired N ks x) (λ y t. Met ks x y t) (λ y hy t gt. paired-outcome x y hx (omega arith) t gt) s gs)
          state
          g

      -- ---- passes till one writes no step

      pub record Rested (before after : State) : Type 0 where
        pub going : Going c k a ns ready few run after
        pub coarser : (x y : ℕ) → x < N → y < N → label_in before.table x ≡ label_in before.table y → label_in after.table x ≡ label_in after.table y
        pub closed : (x : ℕ) → x < N → (y : ℕ) → y < x → Met ks x y after
        pub least : count_in before.cells ≤ count_in after.cells
        pub under : Under (count_in before.cells) before.cells after.cells

      pub rounds-closed : (left : ℕ) (state : State) → Going c k a ns ready few run state → 7018 < left + count_in state.cells → Rested state (rounds N ks left state)
      unfolding rounds
      rounds-closed zero state g h = absurd (omega (arith, paid-most N (label_in state.table) (count_in state.cells) few g.paid))
      rounds-closed (suc left) state g h =
          go (eqb (count_in (passed N ks state).cells) (count_in state.cells)) refl (passed-outcome state g) (rounds-closed left (passed N ks state))
        where
          go : (b : Bool) → eqb (count_in (passed N ks state).cells) (count_in state.cells) ≡ b
              → Outcome c k a ns ready few run (λ s. (x : ℕ) → x < N → (y : ℕ) → y < x → Met ks x y s) state (passed N ks state)
              → (Going c k a ns ready few run (passed N ks state) → 7018 < left + count_in (passed N ks state).cells → Rested (passed N ks state) (rounds N ks left (passed N ks state)))
              → Rested state (rounds N ks (suc left) state)
          go true e o ih =
              rw (e, rounds)
              (record {
                going = o.going;
                coarser = o.coarser;
                closed = ⊎_elim (λ p. subst (λ (s : State). (x : ℕ) → x < N → (y : ℕ) → y < x → Met ks x y s) (sym p.0) p.1)
                    (λ p. absurd (omega (arith, eqb-true (count_in (passed N ks state).cells) (count_in state.cells) e)))
                    o.did;
                least = o.least;
                under = o.under;
              })
          go false e o ih =
              let t : Rested (passed N ks state) (rounds N ks left (passed N ks state)) =
              ih o.going (omega (arith, o.least, eqb-false (count_in (passed N ks state).cells) (count_in state.cells) e)) in
              rw (e, rounds)
              (record {
                going = t.going;
                coarser = λ x y hx hy q. t.coarser x y hx hy (o.coarser x y hx hy q);
                closed = t.closed;
                least = omega (arith, o.least, t.least);
                under = under-then o.least o.under t.under;
              })
