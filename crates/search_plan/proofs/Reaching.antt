-- The sets of the plan, in words of the terms: bit v of a row's number is whether variable v is in its term.
--     sets-touch      the bits of a pattern row
--     asked-free      a variable that is in no literal's set is free, and else not
--     Few, fit-few    each variable's number has a bit, as a well-formed rule's has
--     plan-reach      so the plan of a well-formed rule says which variables are in each row's term
--     plan-free       and which are free
-- Assumes nothing.
use mathlib.Core.Bool.{Bool, true, false, not, ◌&&◌, ◌||◌}
use mathlib.Core.List.{List, [], ◌∷◌, ◌++◌}
use mathlib.Core.Path.{◌≡◌, refl, sym, ap, ap₂, ◌∙◌}
use Prim.Native.Nat.{ℕ, zero, suc, ◌*◌, ◌%◌, ◌^◌, ◌<◌}
use native.Mathlib.Omega.{arith}
use lib.Bits.{bit_or}
use lib.Dec.{eqb, lit<}
use borrow.Author.Tests.{eqb-true, eqb-false}
use lib.ListN.{length, get_or, length-append}
use lib.Pow.{shl_exact}
use Rattle.meaning.specs.Rules.{Pattern, variable, apply, Literal, Clause}
use Rattle.meaning.specs.Formed.{left_of, right_of}
use Rattle.meaning.specs.Pruning.{any_of, touch, touches_from, touches, none_touch}
use Rattle.runs.specs.Limits.{most_patterns}
use Rattle.runs.specs.Runs.{each, pattern_count, pattern_kind_in, pattern_in, patterns_of, clause_of}
use Rattle.runs.specs.Fit.{PatternAt, FitClause}
use Rattle.runs.proofs.Saying.{pattern-variable, pattern-symbol}
use Rattle.runs.proofs.Ruled.{fit-patterns}
use Rattle.bits.specs.Sets.{bit_at}
use Rattle.bits.proofs.Words.{none_has, or-has, only-has}
use Rattle.search_plan.specs.Asked.{idle, asked, free_by}
use Rattle.search_plan.specs.Sets.{union, set_of, sets_from, sets, sides, reached_from, reached_by}
use Rattle.search_plan.specs.Plans.{plan_of}
use Rattle.search_plan.proofs.Literals.{idle-sides, asked-sides}
use Rattle.search_plan.proofs.Planning.{padded-at}

or_assoc : (a b c : Bool) → ((a || b) || c) ≡ (a || (b || c))
or_assoc true b c = refl
or_assoc false b c = refl

or-false : (a : Bool) → (a || false) ≡ a
or-false true = refl
or-false false = refl

not-both : (a b : Bool) → (a || not b) ≡ not (not a && b)
not-both true b = refl
not-both false b = refl

eqb-sym : (a b : ℕ) → eqb a b ≡ eqb b a
eqb-sym a b = go (eqb a b) refl (eqb b a) refl
  where
    go : (x : Bool) → eqb a b ≡ x → (y : Bool) → eqb b a ≡ y → eqb a b ≡ eqb b a
    go true p true q = p ∙ sym q
    go false p false q = p ∙ sym q
    go true p false q = absurd (eqb-false b a q (sym (eqb-true a b p)))
    go false p true q = absurd (eqb-false a b p (sym (eqb-true b a q)))

-- each variable's number has a bit in a word
abbrev pub Few : List Pattern → Type 0
Few [] = Unit {0}
Few (variable v ∷ ps) = (v < 64) × Few ps
Few (apply f l ∷ ps) = Few ps

module _ (v : ℕ) where
  -- a run of sets, and what has the variable
  abbrev Tells : List ℕ → List Bool → Type 0
  Tells xs bs = (p : ℕ) → bit_at (get_or xs p 0) v ≡ get_or bs p false

  power-bit : (w : ℕ) → w < 64 → bit_at (2 ^ w) v ≡ eqb w v
  power-bit w h =
      let e : (1 * 2 ^ w) % 2 ^ 64 ≡ 2 ^ w = shl_exact 1 w 64 (lit< tt) (omega arith) ∙ (omega arith) in
      ap (λ (x : ℕ). bit_at x v) (sym e) ∙ only-has w v h ∙ eqb-sym v w

  union-bit : (xs : List ℕ) (bs : List Bool) → Tells xs bs → (s : ℕ) (l : List ℕ) → bit_at (union xs s l) v ≡ (bit_at s v || any_of bs l)
  unfolding union any_of
  union-bit xs bs t s [] = sym (or-false (bit_at s v))
  union-bit xs bs t s (a ∷ l) =
      union-bit xs bs t (bit_or s (get_or xs a 0)) l
      ∙ ap (◌|| any_of bs l) (or-has s (get_or xs a 0) v ∙ ap (bit_at s v ||◌) (t a))
      ∙ or_assoc (bit_at s v) (get_or bs a false) (any_of bs l)

  one_bit : (xs : List ℕ) (bs : List Bool) → Tells xs bs → (p : Pattern) → Few (p ∷ []) → bit_at (set_of xs p) v ≡ touch v bs p
  unfolding set_of touch
  one_bit xs bs t (variable w) h = power-bit w h.0
  one_bit xs bs t (apply f l) h = union-bit xs bs t 0 l ∙ ap (◌|| any_of bs l) (none_has v)

  snoc-tells : (xs : List ℕ) (bs : List Bool) (x : ℕ) (b : Bool) → length xs ≡ length bs → Tells xs bs → bit_at x v ≡ b → Tells (xs ++ (x ∷ [])) (bs ++ (b ∷ []))
  snoc-tells [] [] x b l t e zero = e
  snoc-tells [] [] x b l t e (suc p) = none_has v
  snoc-tells [] (c ∷ bs) x b l t e p = absurd (omega arith)
  snoc-tells (y ∷ xs) [] x b l t e p = absurd (omega arith)
  snoc-tells (y ∷ xs) (c ∷ bs) x b l t e zero = t 0
  snoc-tells (y ∷ xs) (c ∷ bs) x b l t e (suc p) = snoc-tells xs bs x b (omega arith) (λ q. t (suc q)) e p

  from-bit : (xs : List ℕ) (bs : List Bool) → length xs ≡ length bs → Tells xs bs → (ps : List Pattern) → Few ps → Tells (sets_from xs ps) (touches_from v bs ps)
  unfolding sets_from touches_from
  from-bit xs bs l t [] f = t
  from-bit xs bs l t (variable w ∷ ps) f =
      from-bit (xs ++ (set_of xs (variable w) ∷ [])) (bs ++ (touch v bs (variable w) ∷ []))
      (omega (arith, length-append xs (set_of xs (variable w) ∷ []), length-append bs (touch v bs (variable w) ∷ [])))
      (snoc-tells xs bs (set_of xs (variable w)) (touch v bs (variable w)) l t (one_bit xs bs t (variable w) (f.0, tt)))
      ps
      f.1
  from-bit xs bs l t (apply g a ∷ ps) f =
      from-bit (xs ++ (set_of xs (apply g a) ∷ [])) (bs ++ (touch v bs (apply g a) ∷ []))
      (omega (arith, length-append xs (set_of xs (apply g a) ∷ []), length-append bs (touch v bs (apply g a) ∷ [])))
      (snoc-tells xs bs (set_of xs (apply g a)) (touch v bs (apply g a)) l t (one_bit xs bs t (apply g a) tt))
      ps
      f

  pub sets-touch : (ps : List Pattern) → Few ps → (p : ℕ) → bit_at (get_or (sets ps) p 0) v ≡ get_or (touches v ps) p false
  unfolding sets touches
  sets-touch ps f p = from-bit [] [] refl (λ q. none_has v) ps f p

  -- ---- literals

  literals-bit : (xs : List ℕ) (bs : List Bool) → Tells xs bs → (s : ℕ) (ls : List Literal) → bit_at (reached_from xs s ls) v ≡ (bit_at s v || not (none_touch bs (asked ls)))
  unfolding reached_from none_touch asked
  literals-bit xs bs t s [] = sym (or-false (bit_at s v))
  literals-bit xs bs t s (l ∷ ls) = go (idle l) refl (literals-bit xs bs t (bit_or s (sides xs l)) ls)
    where
      one : (b : Bool) → idle l ≡ b → bit_at (bit_or s (sides xs l)) v ≡ (bit_at s v || bit_at (sides xs l) v)
      one b e = or-has s (sides xs l) v

      go : (b : Bool) → idle l ≡ b → bit_at (reached_from xs (bit_or s (sides xs l)) ls) v ≡ (bit_at (bit_or s (sides xs l)) v || not (none_touch bs (asked ls)))
          → bit_at (reached_from xs (bit_or s (sides xs l)) ls) v ≡ (bit_at s v || not (none_touch bs (asked (l ∷ ls))))
      go true e ih =
          rw (e, asked)
          (ih ∙ ap (◌|| not (none_touch bs (asked ls))) (one true e ∙ ap (λ (x : ℕ). bit_at s v || bit_at x v) (idle-sides xs l e) ∙ ap (bit_at s v ||◌) (none_has v) ∙ or-false (bit_at s v)))
      go false e ih =
          rw (e, asked)
          (ih
          ∙ ap (◌|| not (none_touch bs (asked ls)))
          (one false e
          ∙ ap (λ (x : ℕ). bit_at s v || bit_at x v) (asked-sides xs l e)
          ∙ ap (bit_at s v ||◌) (or-has (get_or xs (left_of l) 0) (get_or xs (right_of l) 0) v ∙ ap₂ ◌||◌ (t (left_of l)) (t (right_of l))))
          ∙ or_assoc (bit_at s v) (get_or bs (left_of l) false || get_or bs (right_of l) false) (not (none_touch bs (asked ls)))
          ∙ ap (bit_at s v ||◌) (not-both (get_or bs (left_of l) false || get_or bs (right_of l) false) (none_touch bs (asked ls))))

  pub asked-free : (k : Clause) → Few k.patterns → bit_at (reached_by (sets k.patterns) k.literals) v ≡ not (free_by k v)
  unfolding free_by
  asked-free k f =
      literals-bit (sets k.patterns) (touches v k.patterns) (sets-touch k.patterns f) 0 k.literals
      ∙ ap (◌|| not (none_touch (touches v k.patterns) (asked k.literals))) (none_has v)

-- ---- well-formed rules

few-snoc : (l : List Pattern) (p : Pattern) → Few l → Few (p ∷ []) → Few (l ++ (p ∷ []))
few-snoc [] p a b = b
few-snoc (variable v ∷ l) p a b = (a.0, few-snoc l p a.1 b)
few-snoc (apply f x ∷ l) p a b = few-snoc l p a b

few-one : (patterns : List ℕ) (i : ℕ) → PatternAt patterns i → Few (pattern_in patterns i ∷ [])
few-one patterns i p = go (eqb (pattern_kind_in patterns i) 4) refl
  where
    go : (b : Bool) → eqb (pattern_kind_in patterns i) 4 ≡ b → Few (pattern_in patterns i ∷ [])
    go true q =
        let e : pattern_kind_in patterns i ≡ 4 = eqb-true (pattern_kind_in patterns i) 4 q in
        rw (pattern-variable patterns i e) (omega (arith, p.variable e), tt)
    go false q = rw (pattern-symbol patterns i (eqb-false (pattern_kind_in patterns i) 4 q)) tt

few-each : (patterns : List ℕ) (n : ℕ) → ((i : ℕ) → i < n → PatternAt patterns i) → Few (each (pattern_in patterns) n)
unfolding each
few-each patterns zero h = tt
few-each patterns (suc n) h =
    few-snoc (each (pattern_in patterns) n) (pattern_in patterns n) (few-each patterns n (λ i l. h i (omega arith))) (few-one patterns n (h n (omega arith)))

module _ (patterns literals : List ℕ) (f : FitClause patterns literals) where
  pub fit-few : Few (patterns_of patterns)
  unfolding patterns_of
  fit-few = few-each patterns (pattern_count patterns) (fit-patterns patterns literals f).each

  pub plan-free : (v : ℕ) → bit_at (plan_of patterns literals).asked v ≡ not (free_by (clause_of patterns literals) v)
  plan-free v = asked-free v (clause_of patterns literals) fit-few

  pub plan-reach : (p v : ℕ) → bit_at (get_or (plan_of patterns literals).reach p 0) v ≡ get_or (touches v (patterns_of patterns)) p false
  plan-reach p v = ap (λ (x : ℕ). bit_at x v) (padded-at (sets (patterns_of patterns)) most_patterns p) ∙ sets-touch v (patterns_of patterns) fit-few p
