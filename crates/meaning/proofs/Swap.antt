-- In a breach each place of the range may give way to a lower one with an equal term.
--     Alike, instances-alike     lists of terms that are equal place by place; the instances under two such choices
--     all-hold-alike             what all literals ask respects equality
--     Lower                      a place for each place of a range, no higher, with an equal term
--     breach-low, low-upto       a breach moved to such places is a breach, and no later
-- Assumes nothing.
use mathlib.Core.List.{List, [], ◌∷◌, ◌++◌, map}
use mathlib.Core.Path.{◌∙◌}
use Prim.Native.Nat.{ℕ, zero, suc, ◌≤◌, ◌<◌}
use native.Mathlib.Omega.{arith}
use lib.ListN.{length, get_or, length-map}
use Rattle.meaning.specs.Context.{Context, Term, equations, term₀, pick, node}
use Rattle.meaning.specs.Equality.{Equal, reflexive, Sames, Stated, same_stop, same_more, congruent, transitive, symmetric}
use Rattle.meaning.specs.Rules.{fill, Pattern, instance, variable, apply, instances, Literal, Holds, equal, unequal, AllHold, Clause, Below, choice, Breach}
use Rattle.meaning.proofs.Order.{Upto, upto-map}
use Rattle.meaning.proofs.Following.{differ-respects}

module _ (c : Context) where
  abbrev Eq : Term → Term → Type 0
  Eq = Equal c.rows (equations c)

  -- place by place equal
  pub data Alike : List Term → List Term → Type 0 where
    alike-stop : Alike [] []
    alike-more : {t u : Term} {ts us : List Term} → Eq t u → Alike ts us → Alike (t ∷ ts) (u ∷ us)

  alike-snoc : {ts us : List Term} {t u : Term} → Alike ts us → Eq t u → Alike (ts ++ (t ∷ [])) (us ++ (u ∷ []))
  alike-snoc alike-stop e = alike-more e alike-stop
  alike-snoc (alike-more f a) e = alike-more f (alike-snoc a e)

  alike_at : {ts us : List Term} → Alike ts us → (i : ℕ) → Eq (get_or ts i term₀) (get_or us i term₀)
  alike_at alike-stop i = reflexive
  alike_at (alike-more e a) zero = e
  alike_at (alike-more e a) (suc i) = alike_at a i

  picks-alike : {ts us : List Term} → Alike ts us → (l : List ℕ) → Sames (Stated c.rows (equations c)) (pick ts l) (pick us l)
  unfolding pick
  picks-alike a [] = same_stop
  picks-alike a (x ∷ l) = same_more (alike_at a x) (picks-alike a l)

  module _ (chosen other : List Term) (alike : (v : ℕ) → Eq (get_or chosen v term₀) (get_or other v term₀)) where
    fill-alike : (ts us : List Term) → Alike ts us → (ps : List Pattern) → Alike (fill chosen ts ps) (fill other us ps)
    unfolding fill instance
    fill-alike ts us a [] = a
    fill-alike ts us a (variable v ∷ ps) = fill-alike (ts ++ (get_or chosen v term₀ ∷ [])) (us ++ (get_or other v term₀ ∷ [])) (alike-snoc a (alike v)) ps
    fill-alike ts us a (apply f l ∷ ps) = fill-alike (ts ++ (node f (pick ts l) ∷ [])) (us ++ (node f (pick us l) ∷ [])) (alike-snoc a (congruent (picks-alike a l))) ps

    pub instances-alike : (ps : List Pattern) → Alike (instances ps chosen) (instances ps other)
    unfolding instances
    instances-alike ps = fill-alike [] [] alike-stop ps

  holds-alike : {ts us : List Term} → Alike ts us → (l : Literal) → Holds c ts l → Holds c us l
  holds-alike a (equal p q) h = transitive (symmetric (alike_at a p)) (transitive h (alike_at a q))
  holds-alike a (unequal p q) h = differ-respects c _ _ _ _ (alike_at a p) (alike_at a q) h

  pub all-hold-alike : {ts us : List Term} → Alike ts us → (ls : List Literal) → AllHold c ts ls → AllHold c us ls
  all-hold-alike a [] h = tt
  all-hold-alike a (l ∷ ls) h = (holds-alike a l h.0, all-hold-alike a ls h.1)

  -- ---- a lower place with an equal term, for each place of the range

  pub record Lower (range : List Term) (low : ℕ → ℕ) : Type 0 where
    pub lower : (i : ℕ) → i < length range → low i ≤ i
    pub same : (i : ℕ) → i < length range → Eq (get_or range i term₀) (get_or range (low i) term₀)

  module _ (range : List Term) (low : ℕ → ℕ) (less : Lower range low) (k : Clause) where
    below-low : (a : List ℕ) → Below (length range) a → Below (length range) (map low a)
    below-low [] b = tt
    below-low (x ∷ a) b = (omega (arith, less.lower x b.0, b.0), below-low a b.1)

    choice-alike : (a : List ℕ) → Below (length range) a → (v : ℕ) → Eq (get_or (choice range a) v term₀) (get_or (choice range (map low a)) v term₀)
    choice-alike [] b v = reflexive
    choice-alike (x ∷ a) b zero = less.same x b.0
    choice-alike (x ∷ a) b (suc v) = choice-alike a b.1 v

    pub breach-low : (a : List ℕ) → Breach c range k a → Breach c range k (map low a)
    breach-low a b =
        record {
          long = length-map a low ∙ b.long;
          inside = below-low a b.inside;
          holds = all-hold-alike (instances-alike (choice range a) (choice range (map low a)) (choice-alike a b.inside) k.patterns) k.literals b.holds;
        }

    pub low-upto : (a : List ℕ) → Below (length range) a → Upto (map low a) a
    low-upto a b = upto-map low (length range) less.lower a b
