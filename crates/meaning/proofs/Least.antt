-- Equality is the least congruence that contains what is given.
--     Each              a relation between terms, lifted to arguments
--     Congruence        the relation contains what is given, and is reflexive, symmetric, transitive and congruent
--     same-congruence   equality is such a relation
--     least             and it is contained in each such relation
-- Assumes nothing.
use Prim.Native.Nat.{ℕ}
use Rattle.meaning.specs.Context.{Term, Terms, node, stop, more}
use Rattle.meaning.specs.Equality.{Same, Sames, given, reflexive, symmetric, transitive, congruent, same_stop, same_more}

-- as many arguments, related one by one
abbrev pub Each : (Term → Term → Type 0) → Terms → Terms → Type 0
Each R stop stop = Unit {0}
Each R stop (more t ts) = ⊥
Each R (more s ss) stop = ⊥
Each R (more s ss) (more t ts) = R s t × Each R ss ts

pub record Congruence (E R : Term → Term → Type 0) : Type 0 where
  pub contains : (s t : Term) → E s t → R s t
  pub reflects : (s : Term) → R s s
  pub turns : (s t : Term) → R s t → R t s
  pub joins : (s t u : Term) → R s t → R t u → R s u
  pub lifts : (f : ℕ) (ss ts : Terms) → Each R ss ts → R (node f ss) (node f ts)

each_same : (E : Term → Term → Type 0) (ss ts : Terms) → Each (Same E) ss ts → Sames E ss ts
each_same E stop stop w = same_stop
each_same E stop (more t ts) w = absurd w
each_same E (more s ss) stop w = absurd w
each_same E (more s ss) (more t ts) w = same_more w.0 (each_same E ss ts w.1)

pub same-congruence : (E : Term → Term → Type 0) → Congruence E (Same E)
same-congruence E =
    record {
      contains = λ s t e. given e;
      reflects = λ s. reflexive;
      turns = λ s t d. symmetric d;
      joins = λ s t u d e. transitive d e;
      lifts = λ f ss ts w. congruent (each_same E ss ts w);
    }

module _ {E R : Term → Term → Type 0} (w : Congruence E R) where
  mutual
    pub least : {s t : Term} → Same E s t → R s t
    least (given {s} {t} e) = w.contains s t e
    least (reflexive {s}) = w.reflects s
    least (symmetric {s} {t} d) = w.turns s t (least d)
    least (transitive {s} {t} {u} d e) = w.joins s t u (least d) (least e)
    least (congruent {f} {ss} {ts} ds) = w.lifts f ss ts (leasts ds)

    leasts : {ss ts : Terms} → Sames E ss ts → Each R ss ts
    leasts same_stop = tt
    leasts (same_more d ds) = (least d, leasts ds)
