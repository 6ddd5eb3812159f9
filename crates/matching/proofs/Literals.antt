-- The steps that a literal gives: each allows every assignment under which the literal holds, for any table.
--     free-same          two rows outside the table with one number have one symbol over the same numbers
--     meet-allows        what both rows can be
--     equate-allows      an equal literal, and so the arguments of its sides where these lie outside
--     match-allows       a variable that is equated with a symbol row, by the symbol's bit
--     apart-allows       an unequal literal
-- Assumes nothing.
use mathlib.Core.Bool.{Bool, true, false, ◌&&◌}
use mathlib.Core.List.{List, [], ◌∷◌}
use mathlib.Core.Path.{◌≡◌, refl, ap, sym, ◌∙◌, subst}
use mathlib.Core.Logic.{◌⊎◌, inl, inr}
use Prim.Native.Nat.{ℕ, zero, suc, ◌%◌, ◌≤◌, ◌<◌}
use native.Mathlib.Omega.{arith}
use lib.Dec.{eqb}
use borrow.Author.Tests.{eqb-false}
use lib.ListN.{length}
use Rattle.meaning.specs.Context.{Row}
use Rattle.meaning.specs.Rules.{Pattern, variable, apply, Below}
use Rattle.meaning.specs.Values.{pattern_at, number_at, args_of}
use Rattle.meaning.proofs.Logic.{and_both, false-true}
use Rattle.bits.specs.Sets.{any_below}
use Rattle.matching.specs.Possible.{Possible, put}
use Rattle.matching.specs.Steps.{meet, pairwise, inside, equate, match_by, match_bit, apart_right, apart_left, keep_apart}
use Rattle.matching.specs.Sound.{In, Table, Over, Bits}
use Rattle.matching.proofs.Numbers.{Held, Free}
use Rattle.bits.proofs.Members.{any-has, any_none}
use Rattle.matching.proofs.Allows.{in-low, in_both, allows-put, allows-cut, allows-sift}
use Rattle.matching.proofs.Numbered.{Numbered, held_low}
use Rattle.matching.proofs.Upward.{Allowed}

module _ (rows : List Row) (rep : ℕ → ℕ) (bound offset : ℕ) (ps : List Pattern) (table : Table rows rep bound offset)
    (a ns : List ℕ) (numbered : Numbered rows rep bound offset ps a ns) where
  abbrev Here : Possible → Type 0
  Here P = Allowed rows rep bound offset ps table a ns numbered P

  abbrev num : ℕ → ℕ
  num p = number_at ns p

  -- ---- equal literals

  pub free-same : (f g : ℕ) (l m : List ℕ) (n : ℕ) → Free rows rep offset ps numbered.done ns f l n → Free rows rep offset ps numbered.done ns g m n
      → (f ≡ g) × (args_of ns l ≡ args_of ns m)
  free-same f g l m n x y =
      let o : x.owner ≡ y.owner = omega (arith, x.number, y.number) in
      let e : apply f x.over ≡ apply g y.over = sym x.pattern ∙ ap (pattern_at ps) o ∙ y.pattern in
      let h : x.over ≡ y.over = cc in
      (cc, sym x.alike ∙ ap (args_of ns) h ∙ y.alike)

  pub meet-allows : (p q : ℕ) → p < length ps → q < length ps → num p ≡ num q → (P : Possible) → Here P → Here (meet p q P)
  unfolding meet
  meet-allows p q hp hq e P w =
      let set : ℕ → Bool = λ x. P.classes p x && P.classes q x in
      let out : Bool = P.outside p && P.outside q in
      let i : In bound offset set out (num p) =
      in_both bound offset table.low (P.classes p) (P.classes q) (P.outside p) (P.outside q) (num p) (w.rows p hp) (rw e (w.rows q hq)) in
      allows-put bound offset (length ps) a ns q set out (put p set out P) (λ _. subst (In bound offset set out) e i)
      (allows-put bound offset (length ps) a ns p set out P (λ _. i) w)

  -- no class is common: both lie outside
  none-common : (p q : ℕ) → p < length ps → q < length ps → num p ≡ num q → (P : Possible) → Here P
      → any_below bound (λ x. P.classes p x && P.classes q x) ≡ false
      → (offset ≤ num p) × (P.outside p ≡ true) × (P.outside q ≡ true)
  none-common p q hp hq e P w n = go (w.rows p hp) (w.rows q hq)
    where
      go : In bound offset (P.classes p) (P.outside p) (num p) → In bound offset (P.classes q) (P.outside q) (num q)
          → (offset ≤ num p) × (P.outside p ≡ true) × (P.outside q ≡ true)
      go (inr x) (inr y) = (x.0, x.1, y.1)
      go (inr x) (inl y) = absurd (omega (arith, x.0, y.0, e, table.low))
      go (inl x) (inr y) = absurd (omega (arith, x.0, y.0, e, table.low))
      go (inl x) (inl y) =
          absurd
          (any_none bound (λ z. P.classes p z && P.classes q z) (num p) n x.0
          (and_both (P.classes p (num p)) (P.classes q (num p)) x.1 (subst (λ (z : ℕ). P.classes q z ≡ true) (sym e) y.1)))

  pair-all : (step : ℕ → ℕ → Possible → Possible)
      → ((p q : ℕ) → p < length ps → q < length ps → num p ≡ num q → (P : Possible) → Here P → Here (step p q P))
      → (l m : List ℕ) → Below (length ps) l → Below (length ps) m → args_of ns l ≡ args_of ns m
      → (P : Possible) → Here P → Here (pairwise step l m P)
  unfolding pairwise
  pair-all step f [] [] b c e P w = w
  pair-all step f [] (q ∷ m) b c e P w = absurd (let z : ◌≡◌ {A = ℕ} 0 1 = cc in omega arith)
  pair-all step f (p ∷ l) [] b c e P w = absurd (let z : ◌≡◌ {A = ℕ} 0 1 = cc in omega arith)
  pair-all step f (p ∷ l) (q ∷ m) b c e P w =
      let x : num p ≡ num q = cc in
      let y : args_of ns l ≡ args_of ns m = cc in
      pair-all step f l m b.1 c.1 y (step p q P) (f p q b.0 c.0 x P w)

  inside-all : (step : ℕ → ℕ → Possible → Possible)
      → ((p q : ℕ) → p < length ps → q < length ps → num p ≡ num q → (P : Possible) → Here P → Here (step p q P))
      → (p q : ℕ) → p < length ps → q < length ps → num p ≡ num q → offset ≤ num p → (P : Possible) → Here P
      → Here (inside step (pattern_at ps p) (pattern_at ps q) P)
  unfolding inside
  inside-all step each p q hp hq e high P w = go (pattern_at ps p) refl (pattern_at ps q) refl
    where
      -- a variable does not lie outside
      given-low : (r v : ℕ) → r < length ps → pattern_at ps r ≡ variable v → offset ≤ num r → ⊥
      given-low r v h x g = omega (arith, (numbered.given r v h x).1, numbered.small v (numbered.given r v h x).0, table.low)

      go : (s : Pattern) → pattern_at ps p ≡ s → (t : Pattern) → pattern_at ps q ≡ t → Here (inside step s t P)
      go (variable v) x t y = absurd (given-low p v hp x high)
      go (apply f l) x (variable v) y = absurd (given-low q v hq y (omega arith))
      go (apply f l) x (apply g m) y = both (numbered.applied p f l hp x).1 (numbered.applied q g m hq y).1
        where
          both : Held rows rep offset ps ns f l (num p) ⊎ Free rows rep offset ps numbered.done ns f l (num p)
              → Held rows rep offset ps ns g m (num q) ⊎ Free rows rep offset ps numbered.done ns g m (num q)
              → Here (inside step (apply f l) (apply g m) P)
          both (inl k) d = absurd (omega (arith, held_low rows rep bound offset ps table ns f l (num p) k, high, table.low))
          both (inr c) (inl k) = absurd (omega (arith, held_low rows rep bound offset ps table ns g m (num q) k, high, e, table.low))
          both (inr c) (inr d) = by (eqb f g) refl
            where
              s : (f ≡ g) × (args_of ns l ≡ args_of ns m)
              s = free-same f g l m (num q) (subst (Free rows rep offset ps numbered.done ns f l) e c) d

              by : (o : Bool) → eqb f g ≡ o → Here (inside step (apply f l) (apply g m) P)
              by true z = rw (z, inside) (pair-all step each l m (numbered.applied p f l hp x).0 (numbered.applied q g m hq y).0 s.1 P w)
              by false z = absurd (eqb-false f g z s.0)

  pub equate-allows : (n p q : ℕ) → p < length ps → q < length ps → num p ≡ num q → (P : Possible) → Here P → Here (equate rows rep bound ps n p q P)
  unfolding equate
  equate-allows zero p q hp hq e P w = meet-allows p q hp hq e P w
  equate-allows (suc n) p q hp hq e P w = go (any_below bound common) refl (P.outside p && P.outside q) refl (equate-allows n)
    where
      common : ℕ → Bool
      common x = P.classes p x && P.classes q x

      go : (b : Bool) → any_below bound common ≡ b → (o : Bool) → (P.outside p && P.outside q) ≡ o
          → ((r s : ℕ) → r < length ps → s < length ps → num r ≡ num s → (Q : Possible) → Here Q → Here (equate rows rep bound ps n r s Q))
          → Here (equate rows rep bound ps (suc n) p q P)
      go true x o y ih = rw (x, equate) (meet-allows p q hp hq e P w)
      go false x true y ih =
          rw (x, y, equate)
          (inside-all (equate rows rep bound ps n) ih p q hp hq e (none-common p q hp hq e P w x).0 (meet p q P) (meet-allows p q hp hq e P w))
      go false x false y ih =
          let k : (offset ≤ num p) × (P.outside p ≡ true) × (P.outside q ≡ true) = none-common p q hp hq e P w x in
          false-true (and_both (P.outside p) (P.outside q) k.1 k.2) y

  -- ---- symbols as bits

  match-one : (bits : ℕ → ℕ → Bool) → Bits rows rep bits → (p q : ℕ) → p < length ps → q < length ps → num p ≡ num q
      → (s : Pattern) → pattern_at ps p ≡ s → (t : Pattern) → pattern_at ps q ≡ t → (P : Possible) → Here P → Here (match_by rows rep bound ps bits s t P)
  unfolding match_by
  match-one bits m p q hp hq e (apply f l) x t y P w = w
  match-one bits m p q hp hq e (variable v) x (variable u) y P w = w
  match-one bits m p q hp hq e (variable v) x (apply f l) y P w =
      allows-sift bound offset (length ps) a ns v (λ n. bits n (f % 64)) P (λ h. by h (numbered.applied q f l hq y).1) w
    where
      g : num p ≡ number_at a v
      g = (numbered.given p v hp x).1

      by : v < length a → Held rows rep offset ps ns f l (num q) ⊎ Free rows rep offset ps numbered.done ns f l (num q) → bits (number_at a v) (f % 64) ≡ true
      by h (inl k) =
          let n : number_at a v ≡ rep k.row = sym g ∙ e ∙ k.number in
          rw (n, k.symbol) (m.has k.row k.below)
      by h (inr k) = absurd (omega (arith, k.number, numbered.small v h, g, e, table.low))

  pub match-allows : (bits : ℕ → ℕ → Bool) → Bits rows rep bits → (p q : ℕ) → p < length ps → q < length ps → num p ≡ num q
      → (P : Possible) → Here P → Here (match_bit rows rep bound ps bits p q P)
  unfolding match_bit
  match-allows bits m p q hp hq e P w =
      match-one bits m q p hq hp (sym e) (pattern_at ps q) refl (pattern_at ps p) refl (match_by rows rep bound ps bits (pattern_at ps p) (pattern_at ps q) P)
      (match-one bits m p q hp hq e (pattern_at ps p) refl (pattern_at ps q) refl P w)

  -- ---- unequal literals

  module _ (differs apart : ℕ → ℕ → Bool) (over : Over bound differs apart) (p q : ℕ) (hp : p < length ps) (hq : q < length ps) (d : differs (num p) (num q) ≡ true) where
    right-allows : (P : Possible) → Here P → Here (apart_right rows rep bound ps apart p q P)
    unfolding apart_right
    right-allows P w =
        let o : (num p < bound) × (num q < bound) × (apart (num p) (num q) ≡ true) = over.over (num p) (num q) d in
        let c : P.classes p (num p) ≡ true = in-low bound offset table.low (P.classes p) (P.outside p) (num p) o.0 (w.rows p hp) in
        allows-cut bound offset (length ps) a ns table.low q (λ x. any_below bound (λ n. P.classes p n && apart n x)) false P
        (λ _. inl (o.1, any-has bound (λ n. P.classes p n && apart n (num q)) (num p) o.0 (and_both (P.classes p (num p)) (apart (num p) (num q)) c o.2)))
        w

    left-allows : (P : Possible) → Here P → Here (apart_left rows rep bound ps apart p q P)
    unfolding apart_left
    left-allows P w =
        let o : (num p < bound) × (num q < bound) × (apart (num p) (num q) ≡ true) = over.over (num p) (num q) d in
        let c : P.classes q (num q) ≡ true = in-low bound offset table.low (P.classes q) (P.outside q) (num q) o.1 (w.rows q hq) in
        allows-cut bound offset (length ps) a ns table.low p (λ n. any_below bound (λ x. P.classes q x && apart n x)) false P
        (λ _. inl (o.0, any-has bound (λ x. P.classes q x && apart (num p) x) (num q) o.1 (and_both (P.classes q (num q)) (apart (num p) (num q)) c o.2)))
        w

    pub apart-allows : (P : Possible) → Here P → Here (keep_apart rows rep bound ps apart p q P)
    unfolding keep_apart
    apart-allows P w = left-allows (apart_right rows rep bound ps apart p q P) (right-allows P w)
