-- The line that comes at a state: the ways out of the functions that ask for it and tell it.
--     lent_again, lent-sound, lent-knows        what is lent, with what is known afterwards
--     sound-fitted                              what is laid out is within the limits
--     line-start, line_after                    what comes at the start, and after a breach
-- Assumes nothing.
use mathlib.Core.Bool.{Bool, true, false}
use mathlib.Core.List.{List, [], ◌∷◌, ◌++◌, map}
use mathlib.Core.Path.{◌≡◌, refl, ap, ap₂, subst, ◌∙◌}
use Prim.Native.Nat.{ℕ, zero, suc, ◌-◌, ◌≤◌, ◌<◌}
use native.Mathlib.Omega.{arith}
use borrow.Author.Rules.{rules}
use borrow.Author.Tests.{eqb-true}
use lib.Dec.{eqb}
use lib.ListN.{length, get_or, take, replicate}
use lib.Seq.{take-append_seam}
use Rattle.std.proofs.Common.{Option, Some, None}
use Rattle.meaning.specs.Context.{Context}
use Rattle.meaning.specs.Equality.{rep_at}
use Rattle.meaning.specs.Formed.{AllPlaced, NamesAll}
use Rattle.meaning.specs.Rules.{Pattern, variable, apply, Clause, variables, Found, found, nothing, First, Before, Below, range_of}
use Rattle.meaning.specs.Columns.{args_at, context_from, pattern_of, patterns_from, clause_from}
use Rattle.meaning.specs.Replies.{places_of}
use Rattle.meaning.specs.Following.{differ_by}
use Rattle.meaning.proofs.Table.{length-terms}
use Rattle.meaning.proofs.Lists.{below_wider}
use Rattle.meaning.proofs.Pruned.{Sought}
use Rattle.meaning.proofs.Finds.{starts-below}
use Rattle.meaning.proofs.ListingNext.{first-sought, next-first}
use Rattle.meaning.proofs.Built.{length-rows, length-patterns}
use Rattle.runs.specs.Limits.{most_rows, most_variables}
use Rattle.differing.specs.Knowing.{Knows}
use Rattle.search.specs.Hunting.{answer_of}
use Rattle.search.specs.Finding.{found_by, later_by}
use Rattle.search.specs.declared.Reply.{Reply}
use Rattle.hunting.specs.Laid.{context_in, rule_in, Sound}
use Rattle.hunting.specs.declared.Laid.{Laid}
use Rattle.reply_lines.specs.Pieces.{low8}
use Rattle.listing.specs.declared.State.{State}
use Rattle.listing.specs.declared.State.TheVariants.{Start, After, Done}
use Rattle.listing.specs.declared.Entry.{Entry}
use Rattle.listing.specs.Filling.{Fitted, Lent, comes_by}
use Rattle.listing.specs.Entries.{Tells, EntryAt}

-- ---- what is lent

pub lent_again : (l : Laid) (known new : List ℕ) → Lent l known → Knows (context_in l) new → Lent l new
lent_again l known new w k = record { sound = w.sound; knows = k }

pub lent-sound : (l : Laid) (known : List ℕ) → Lent l known → Sound l
lent-sound l known w = w.sound

pub lent-knows : (l : Laid) (known : List ℕ) → Lent l known → Knows (context_in l) known
lent-knows l known w = w.knows

-- what is laid out is within the limits
variables-snoc : (l : List Pattern) (p : Pattern) → variables l ≤ 4 → variables (p ∷ []) ≤ 4 → variables (l ++ (p ∷ [])) ≤ 4
unfolding variables
variables-snoc [] p h g = g
variables-snoc (variable v ∷ l) p h g = omega (arith, variables-snoc l p (omega arith) g)
variables-snoc (apply f a ∷ l) p h g = variables-snoc l p h g

pattern-few : (kind head : ℕ) (l : List ℕ) → (kind ≡ 4 → head < 4) → variables (pattern_of kind head l ∷ []) ≤ 4
unfolding pattern_of variables
pattern-few kind head l h = go (eqb kind 4) refl
  where
    go : (b : Bool) → eqb kind 4 ≡ b → variables (pattern_of kind head l ∷ []) ≤ 4
    go true e = rw (e, pattern_of) (omega (arith, h (eqb-true kind 4 e)))
    go false e = rw (e, pattern_of) (omega arith)

patterns-few : (kinds heads counts args : List ℕ) (n : ℕ) → ((i : ℕ) → i < n → get_or kinds i 0 ≡ 4 → get_or heads i 0 < 4)
    → variables (patterns_from kinds heads counts args n) ≤ 4
unfolding patterns_from variables
patterns-few kinds heads counts args zero h = omega arith
patterns-few kinds heads counts args (suc n) h =
    variables-snoc (patterns_from kinds heads counts args n) (pattern_of (get_or kinds n 0) (get_or heads n 0) (args_at counts args n))
    (patterns-few kinds heads counts args n (λ i l. h i (omega arith)))
    (pattern-few (get_or kinds n 0) (get_or heads n 0) (args_at counts args n) (h n (omega arith)))

module _ (l : Laid) (s : Sound l) where
  rule-few : variables (rule_in l).patterns ≤ most_variables
  unfolding clause_from
  rule-few =
      patterns-few l.rule.kinds l.rule.heads l.rule.counts l.rule.args l.rule.patterns s.rule.fit.variables-few

  rows_long : length (context_in l).rows ≤ most_rows
  unfolding context_from
  rows_long = omega (arith, length-rows l.context.symbols l.context.counts l.context.args l.context.rows, s.context.fit.rows_few)

  names : NamesAll (length (rule_in l).patterns) (rule_in l).literals
  unfolding clause_from
  names = rw (length-patterns l.rule.kinds l.rule.heads l.rule.counts l.rule.args l.rule.patterns) s.rule.fit.named

  places : AllPlaced 0 (rule_in l).patterns
  unfolding clause_from
  places = s.rule.fit.placed

  pub sound-fitted : Fitted (context_in l) (rule_in l)
  sound-fitted = record { formed = record { fit = s.context.fit.fit; placed = places; named = names }; rows_few = rows_long; variables-few = rule-few }

-- ---- what comes at a state

low-bytes : (a : List ℕ) → Below 256 a → map low8 a ≡ a
low-bytes [] b = refl
low-bytes (x ∷ a) b = ap₂ ◌∷◌ (omega (arith, b.0)) (low-bytes a b.1)

-- what is found is what is sought
module _ (c : Context) (t : List ℕ) (k : Clause) where
  abbrev So : List ℕ → Type 0
  So = Sought (differ_by c) c.rows (rep_at t) 65536 k

  pub found-sought : (a : List ℕ) → found_by c t k ≡ found a → So a
  found-sought a e = (subst (First So) e (first-sought (differ_by c) c.rows (rep_at t) 65536 k)).0

  pub next-sought : (after a : List ℕ) → later_by c t k after ≡ found a → So a
  next-sought after a e = (subst (First (λ b. So b × Before (take (variables k.patterns) after) b)) e (next-first (differ_by c) c.rows (rep_at t) 65536 k after)).0.0

-- rows that were found are bytes
module _ (c : Context) (t : List ℕ) (k : Clause) (f : Fitted c k) where
  range-few : length (range_of c) ≤ 256
  range-few = omega (arith, length-terms c.rows, f.rows_few)

  sought-low : (a : List ℕ) → Sought (differ_by c) c.rows (rep_at t) 65536 k a → Below 256 a
  sought-low a w = below_wider (length (range_of c)) 256 a range-few (starts-below c (rep_at t) a w.1)

module _ (c : Context) (t : List ℕ) (k : Clause) (f : Fitted c k) (s : State) (o : Option Entry) where
  line-found : (x : Found) → ((a : List ℕ) → x ≡ found a → Below 256 a) → (s ≡ Done → ⊥) → x ≡ comes_by c t k s
      → Tells (answer_of x).kind (answer_of x).places o → EntryAt c t k s o
  unfolding answer_of places_of
  line-found (found a) low g q w = go o w
    where
      b : map low8 (take (length a) (a ++ replicate (4 - length a) 255)) ≡ a
      b = ap (map low8) (take-append_seam a (replicate (4 - length a) 255)) ∙ low-bytes a (low a refl)

      go : (p : Option Entry) → Tells (answer_of (found a)).kind (answer_of (found a)).places p → EntryAt c t k s p
      go (Some e) v = record { what = found a; comes = record { fitted = f; going = g; what = q }; told = rw b at v }
      go None v = absurd v
  line-found nothing low g q w = go o w
    where
      go : (p : Option Entry) → Tells (answer_of nothing).kind (answer_of nothing).places p → EntryAt c t k s p
      go (Some e) v = record { what = nothing; comes = record { fitted = f; going = g; what = q }; told = v }
      go None v = absurd v

-- what a search answers, told as a line
module _ (l : Laid) (known : List ℕ) (lent : Lent l known) (s : State) (o : Option Entry) (r : Reply) where
  pub line-start : s ≡ Start → r ≡ answer_of (found_by (context_in l) l.table (rule_in l)) → Tells r.kind r.places o
      → EntryAt (context_in l) l.table (rule_in l) s o
  unfolding comes_by
  line-start q a w =
      line-found (context_in l) l.table (rule_in l) (sound-fitted l lent.sound) s o (found_by (context_in l) l.table (rule_in l))
      (λ b p. sought-low (context_in l) l.table (rule_in l) (sound-fitted l lent.sound) b (found-sought (context_in l) l.table (rule_in l) b p))
      (λ d. absurd (let z : ◌≡◌ {A = ℕ} 0 1 = cc in omega arith)) (rw q refl)
      (subst (λ (y : Reply). Tells y.kind y.places o) a w)

  pub line_after : (places : List ℕ) → s ≡ After places → r ≡ answer_of (later_by (context_in l) l.table (rule_in l) places) → Tells r.kind r.places o
      → EntryAt (context_in l) l.table (rule_in l) s o
  unfolding comes_by
  line_after places q a w =
      line-found (context_in l) l.table (rule_in l) (sound-fitted l lent.sound) s o (later_by (context_in l) l.table (rule_in l) places)
      (λ b p. sought-low (context_in l) l.table (rule_in l) (sound-fitted l lent.sound) b (next-sought (context_in l) l.table (rule_in l) places b p))
      (λ d. absurd (let z : ◌≡◌ {A = ℕ} 0 1 = cc in omega arith)) (rw q refl)
      (subst (λ (y : Reply). Tells y.kind y.places o) a w)

pub ruleset mine = (rules, lent_again, lent-sound, lent-knows, line-start, line_after)
