-- Grounds tried: a checker that answers as defined refuses, at its place, what careless ones take. The context has the rows a, b, g(a,a) and g(a,b), and states
-- that a and b differ; the pattern rows are the same four terms. It states no equation, so that no two of the four are equal, and g(a,a) and g(a,b) do not differ.
--     Checker, Right     a candidate; it answers as defined
--     some-..            grounds that are accepted
--     no-..              grounds that are refused; where `Refuses` says so, no breach stands behind them
-- Assumes nothing.
use mathlib.Core.List.{List, [], ◌∷◌}
use mathlib.Core.Path.{◌≡◌, refl, ap, ap₂, sym, ◌∙◌}
use Prim.Native.Nat.{ℕ, zero, suc}
use native.Mathlib.Omega.{arith}
use Rattle.meaning.specs.Context.{Term, Terms, node, stop, more, pick, terms, grow, differ, Context, equations, equations_of, differences, differences_of}
use Rattle.meaning.specs.Equality.{Sames, Stated, EqualIn, given, reflexive, symmetric, transitive, congruent, same_stop, same_more}
use Rattle.meaning.specs.Rules.{apply, variables, instances, fill, instance, range_of, Literal, equal, unequal, Clause, Breach}
use Rattle.meaning.specs.Formed.{Fit, Formed, Ordered, Within, NamesAll}
use Rattle.meaning.specs.ByTable.{same_list}
use Rattle.meaning.specs.Grounds.{Ref, Step, Conclusion, conclusion_for, Verdict, accepted, bad, unconcluded, Verified}
use Rattle.meaning.specs.Checking.{entry_of, entries, key_of, keys_of, same_key, numbered, alike, number_like, numbers_to, numbers_of, number_below, side_of, counts, is_unequal, owner_by, sides_by, used_by, cited_by, paired_by, met_by, each_by, congruent_by, adds_by, added_by, derives_by, follows_by, differs_by_steps, concludes_by, first_false, assigned_by, choose, concluded_by, verdict_by}
use Rattle.meaning.specs.Following as F
use Rattle.meaning.specs.Closing.{move, total, close, agree, rounds, round, rows_pass, row_pass, stated_pass, upto, unite, unite_if, count}
use Rattle.meaning.specs.Following.{differ_by}
use Rattle.meaning.proofs.Logic.{false-true}
use Rattle.meaning.proofs.FollowingNumbers.{differ_by-rows}
use Rattle.meaning.proofs.Grounded.{verdict-one}
use Rattle.meaning.proofs.Verdicts.{verdict_by-verified}

abbrev pub Checker : Type 0
Checker = Context → Clause → List ℕ → List Step → List Conclusion → Verdict

abbrev pub Right : Checker → Type 0
Right f = (c : Context) (k : Clause) (a : List ℕ) (steps : List Step) (ds : List Conclusion) → Formed c k → Verified c k a steps ds (f c k a steps ds)

-- ---- the context and its rules

abbrev four : Context
four =
    record {
      rows =
          record { symbol = 1; args = [] }
          ∷ record { symbol = 2; args = [] }
          ∷ record { symbol = 3; args = 0 ∷ 0 ∷ [] }
          ∷ record { symbol = 3; args = 0 ∷ 1 ∷ [] }
          ∷ [];
      statements = differ 0 1 ∷ [];
    }

abbrev rule : List Literal → Clause
rule ls = record { patterns = apply 1 [] ∷ apply 2 [] ∷ apply 3 (0 ∷ 0 ∷ []) ∷ apply 3 (0 ∷ 1 ∷ []) ∷ []; literals = ls }

four-ordered : Ordered four.rows
four-ordered zero h = tt
four-ordered (suc zero) h = tt
four-ordered (suc (suc zero)) h = (omega arith, (omega arith, tt))
four-ordered (suc (suc (suc zero))) h = (omega arith, (omega arith, tt))
four-ordered (suc (suc (suc (suc i)))) h = absurd (omega arith)

four-apart : Within 4 (differences four)
unfolding differences_of
four-apart zero h = (omega arith, omega arith)
four-apart (suc i) h = absurd (omega arith)

four-fit : Fit four
unfolding equations_of
four-fit = record { ordered = four-ordered; within = λ k h. absurd (omega arith); apart = four-apart }

rule-formed : (ls : List Literal) → NamesAll 4 ls → Formed four (rule ls)
rule-formed ls w =
    record {
      fit = four-fit;
      placed = (tt, (tt, ((omega arith, (omega arith, tt)), ((omega arith, (omega arith, tt)), tt))));
      named = w;
    }

-- ---- no two of the four are equal

mutual
  unfolding equations_of

  bare-equal : {s t : Term} → EqualIn four s t → s ≡ t
  bare-equal (given g) = absurd (omega (arith, g.1))
  bare-equal reflexive = refl
  bare-equal (symmetric d) = sym (bare-equal d)
  bare-equal (transitive d e) = bare-equal d ∙ bare-equal e
  bare-equal (congruent {f} ds) = ap (node f) (bare-equals ds)

  bare-equals : {ss ts : Terms} → Sames (Stated four.rows (equations four)) ss ts → ss ≡ ts
  bare-equals same_stop = refl
  bare-equals (same_more d ds) = ap₂ more (bare-equal d) (bare-equals ds)

abbrev unlike : List Literal
unlike = equal 0 1 ∷ []

abbrev unlike_args : List Literal
unlike_args = equal 2 3 ∷ []

no-unlike : (a : List ℕ) (ls : List Literal) → Breach four (range_of four) (rule (equal 0 1 ∷ ls)) a → ⊥
unfolding instances fill instance pick
no-unlike a ls b =
    let e : node 1 stop ≡ node 2 stop = bare-equal b.holds.0 in
    let z : ◌≡◌ {A = ℕ} 1 2 = cc in
    omega arith

no-unlike-args : (a : List ℕ) → Breach four (range_of four) (rule unlike_args) a → ⊥
unfolding instances fill instance pick
no-unlike-args a b =
    let e : node 3 (more (node 1 stop) (more (node 1 stop) stop)) ≡ node 3 (more (node 1 stop) (more (node 2 stop) stop)) = bare-equal b.holds.0 in
    let z : ◌≡◌ {A = ℕ} 1 2 = cc in
    omega arith

-- g(a,a) and g(a,b) may well be one without a and b being one
no-alike-args : (a : List ℕ) (ls : List Literal) → Breach four (range_of four) (rule (unequal 2 3 ∷ ls)) a → ⊥
unfolding instances fill instance pick terms grow differ_by F.follows_by close rounds round rows_pass row_pass stated_pass upto unite_if agree unite count move total same_list equations_of differences_of
no-alike-args a ls b = false-true ((differ_by-rows four four-fit 2 3 (omega arith) (omega arith)).0 b.holds.0) refl

-- ---- grounds

abbrev at_row : ℕ → Ref
at_row i = record { mark = 0; row = i }

abbrev at-instance : ℕ → Ref
at-instance i = record { mark = 1; row = i }

-- a step of an owner and a kind, with two numbers
abbrev step_of : ℕ → ℕ → Ref → Ref → ℕ → ℕ → Step
step_of owner kind l r x y = record { owner = owner; kind = kind; left = l; right = r; numbers = x ∷ y ∷ 0 ∷ 0 ∷ [] }

-- literal l by step s, and by the difference of a and b where it is unequal
abbrev shown : ℕ → ℕ → Conclusion
shown l s = record { literal = l; first = s; difference = 1 }

-- a = b by itself
abbrev self : List Step
self = step_of 0 3 (at-instance 0) (at-instance 1) 1 0 ∷ []

-- a = a, and g(a,a) = g(a,b) by that alone
abbrev one_argument : List Step
one_argument = step_of 0 2 (at_row 0) (at-instance 0) 0 0 ∷ step_of 0 5 (at-instance 2) (at-instance 3) 1 0 ∷ []

-- a = a and b = b, and a = b by these
abbrev unequal_middles : List Step
unequal_middles =
    step_of 0 2 (at-instance 0) (at_row 0) 0 0 ∷ step_of 0 2 (at_row 1) (at-instance 1) 0 0 ∷ step_of 0 4 (at-instance 0) (at-instance 1) 1 2 ∷ []

-- the instance a is the row a
abbrev linked : List Step
linked = step_of 0 2 (at-instance 0) (at_row 0) 0 0 ∷ []

-- a = b, added for a literal
abbrev added_for : ℕ → List Step
added_for l = step_of l 6 (at-instance 0) (at-instance 1) 0 0 ∷ []

-- b = a, added for literal 1, and turned round by an owner
abbrev added_turned : ℕ → List Step
added_turned o = step_of 1 6 (at-instance 1) (at_row 0) 0 0 ∷ step_of o 3 (at_row 0) (at_row 1) 1 0 ∷ []

-- a = b, added for literal 2, and turned round twice for literal 1
abbrev added_for_other : List Step
added_for_other = step_of 2 6 (at-instance 0) (at-instance 1) 0 0 ∷ step_of 1 3 (at_row 1) (at_row 0) 1 0 ∷ step_of 1 3 (at_row 0) (at_row 1) 2 0 ∷ []

abbrev same : List Literal
same = equal 0 0 ∷ []

abbrev distinct : List Literal
distinct = unequal 0 1 ∷ []

abbrev distinct_turned : List Literal
distinct_turned = unequal 1 0 ∷ []

abbrev two_literals : List Literal
two_literals = equal 0 1 ∷ equal 0 0 ∷ []

abbrev both_unequal : List Literal
both_unequal = unequal 2 3 ∷ unequal 0 1 ∷ []

abbrev unlike_distinct : List Literal
unlike_distinct = equal 0 1 ∷ unequal 0 1 ∷ []

abbrev verdict : List Literal → List Step → List Conclusion → Verdict
verdict ls steps ds = verdict_by four (rule ls) [] steps ds

computed :
    (verdict unlike self (shown 1 1 ∷ []) ≡ bad 1)
    × (verdict unlike_args one_argument (shown 1 2 ∷ []) ≡ bad 2)
    × (verdict unlike unequal_middles (shown 1 3 ∷ []) ≡ bad 3)
    × (verdict two_literals linked (shown 2 1 ∷ []) ≡ unconcluded 1)
    × (verdict same self (shown 1 1 ∷ []) ≡ bad 1)
unfolding entry_of entries key_of keys_of same_key numbered alike number_like numbers_to numbers_of number_below side_of counts is_unequal owner_by sides_by used_by cited_by paired_by met_by each_by congruent_by adds_by added_by derives_by follows_by differs_by_steps concludes_by first_false assigned_by choose concluded_by verdict_by same_list conclusion_for variables equations_of differences_of
computed = (refl, refl, refl, refl, refl)

computed-owners :
    (verdict distinct (added_for 1) (shown 1 1 ∷ []) ≡ accepted)
    × (verdict distinct_turned (added_turned 1) (shown 1 2 ∷ []) ≡ accepted)
    × (verdict distinct_turned (added_turned 1) (shown 1 1 ∷ []) ≡ unconcluded 1)
    × (verdict distinct_turned (added_turned 0) (shown 1 2 ∷ []) ≡ bad 2)
    × (verdict both_unequal added_for_other (shown 1 3 ∷ shown 2 1 ∷ []) ≡ bad 2)
    × (verdict both_unequal (added_for 2) (shown 1 1 ∷ shown 2 1 ∷ []) ≡ unconcluded 1)
    × (verdict unlike_distinct (added_for 2) (shown 1 1 ∷ shown 2 1 ∷ []) ≡ unconcluded 1)
    × (verdict distinct (added_for 0) (shown 1 1 ∷ []) ≡ bad 1)
    × (verdict unlike (added_for 1) (shown 1 1 ∷ []) ≡ bad 1)
    × (verdict distinct (added_for 2) (shown 1 1 ∷ []) ≡ bad 1)
unfolding entry_of entries key_of keys_of same_key numbered alike number_like numbers_to numbers_of number_below side_of counts is_unequal owner_by sides_by used_by cited_by paired_by met_by each_by congruent_by adds_by added_by derives_by follows_by differs_by_steps concludes_by first_false assigned_by choose concluded_by verdict_by same_list conclusion_for variables equations_of differences_of
computed-owners = (refl, refl, refl, refl, refl, refl, refl, refl, refl, refl)

-- what a right checker answers is what is computed
answers : (f : Checker) → Right f → (ls : List Literal) → NamesAll 4 ls → (steps : List Step) (ds : List Conclusion) (v : Verdict) → verdict ls steps ds ≡ v
    → f four (rule ls) [] steps ds ≡ v
answers f w ls h steps ds v e =
    verdict-one four (rule ls) [] steps ds _ _ (w four (rule ls) [] steps ds (rule-formed ls h)) (verdict_by-verified four (rule ls) [] steps ds (rule-formed ls h))
    ∙ e

-- the answer to steps and conclusions for literals that no assignment breaks
abbrev Refuses : Checker → List Literal → List Step → List Conclusion → Verdict → Type 0
Refuses f ls steps ds v = (f four (rule ls) [] steps ds ≡ v) × ((a : List ℕ) → Breach four (range_of four) (rule ls) a → ⊥)

module _ (f : Checker) (right : Right f) where
  -- a step that cites itself
  pub no_self : Refuses f unlike self (shown 1 1 ∷ []) (bad 1)
  no_self = (answers f right unlike ((omega arith, omega arith), tt) _ _ _ computed.0, λ a. no-unlike a [])

  -- congruence without one argument
  pub no-one-argument : Refuses f unlike_args one_argument (shown 1 2 ∷ []) (bad 2)
  no-one-argument = (answers f right unlike_args ((omega arith, omega arith), tt) _ _ _ computed.1, no-unlike-args)

  -- two steps that do not meet
  pub no-unequal-middles : Refuses f unlike unequal_middles (shown 1 3 ∷ []) (bad 3)
  no-unequal-middles = (answers f right unlike ((omega arith, omega arith), tt) _ _ _ computed.2, λ a. no-unlike a [])

  -- a literal that nothing concludes, before one that is concluded
  pub no-literal-skipped : Refuses f two_literals linked (shown 2 1 ∷ []) (unconcluded 1)
  no-literal-skipped =
      (answers f right two_literals ((omega arith, omega arith), ((omega arith, omega arith), tt)) _ _ _ computed.3, λ a. no-unlike a same)

  -- a wrong step that nothing needs
  pub no-unused-step : f four (rule same) [] self (shown 1 1 ∷ []) ≡ bad 1
  no-unused-step = answers f right same ((omega arith, omega arith), tt) _ _ _ computed.4

  -- the added equation, as it stands and turned round
  pub some-added : f four (rule distinct) [] (added_for 1) (shown 1 1 ∷ []) ≡ accepted
  some-added = answers f right distinct ((omega arith, omega arith), tt) _ _ _ computed-owners.0

  pub some-turned : f four (rule distinct_turned) [] (added_turned 1) (shown 1 2 ∷ []) ≡ accepted
  some-turned = answers f right distinct_turned ((omega arith, omega arith), tt) _ _ _ computed-owners.1

  -- the sides of the difference the other way round
  pub no-other-order : f four (rule distinct_turned) [] (added_turned 1) (shown 1 1 ∷ []) ≡ unconcluded 1
  no-other-order = answers f right distinct_turned ((omega arith, omega arith), tt) _ _ _ computed-owners.2

  -- a shared step that cites an owned one
  pub no_sharing : f four (rule distinct_turned) [] (added_turned 0) (shown 1 2 ∷ []) ≡ bad 2
  no_sharing = answers f right distinct_turned ((omega arith, omega arith), tt) _ _ _ computed-owners.3

  -- the added equation of another literal: in a step, and in a conclusion
  pub no-other-added : Refuses f both_unequal added_for_other (shown 1 3 ∷ shown 2 1 ∷ []) (bad 2)
  no-other-added =
      (answers f right both_unequal ((omega arith, omega arith), ((omega arith, omega arith), tt)) _ _ _ computed-owners.4, λ a. no-alike-args a distinct)

  pub no-other-concluded : Refuses f both_unequal (added_for 2) (shown 1 1 ∷ shown 2 1 ∷ []) (unconcluded 1)
  no-other-concluded =
      (answers f right both_unequal ((omega arith, omega arith), ((omega arith, omega arith), tt)) _ _ _ computed-owners.5, λ a. no-alike-args a distinct)

  -- an added equation for an equal literal
  pub no-equal-added : Refuses f unlike_distinct (added_for 2) (shown 1 1 ∷ shown 2 1 ∷ []) (unconcluded 1)
  no-equal-added =
      (answers f right unlike_distinct ((omega arith, omega arith), ((omega arith, omega arith), tt)) _ _ _ computed-owners.6, λ a. no-unlike a distinct)

  -- an added equation that is shared, that an equal literal owns, and that no literal owns
  pub no-shared-added : f four (rule distinct) [] (added_for 0) (shown 1 1 ∷ []) ≡ bad 1
  no-shared-added = answers f right distinct ((omega arith, omega arith), tt) _ _ _ computed-owners.7

  pub no-equal-owner : Refuses f unlike (added_for 1) (shown 1 1 ∷ []) (bad 1)
  no-equal-owner = (answers f right unlike ((omega arith, omega arith), tt) _ _ _ computed-owners.8, λ a. no-unlike a [])

  pub no-such-owner : f four (rule distinct) [] (added_for 2) (shown 1 1 ∷ []) ≡ bad 1
  no-such-owner = answers f right distinct ((omega arith, omega arith), tt) _ _ _ computed-owners.9
