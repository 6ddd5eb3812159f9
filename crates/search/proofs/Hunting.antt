-- The search as the code goes: one level read and tried, one row of a variable tried, and the rows of a variable in turn.
--     breach-answer                                    answers
--     begins-start, -next, -other, -done               the row that a variable begins with
--     Trying, trying_start, -other, -found, -next, -done       the rows of a variable
--     enter-dead, enter-live, planned-listed, -rises   one level
--     chosen-start, chosen-next                        the choice so far
--     hunt-leaf, ready-hunting, start-enter            the variables in order
-- Assumes nothing.
use mathlib.Core.Bool.{Bool, true, false, not, ◌||◌}
use mathlib.Core.List.{List, [], ◌∷◌, ◌++◌}
use mathlib.Core.Path.{◌≡◌, refl, sym, ap, ap₂, ◌∙◌}
use Prim.Native.Nat.{ℕ, suc, ◌+◌, ◌-◌, ◌≤◌, ◌<◌}
use native.Mathlib.Omega.{arith}
use native.Mathlib.Decide.{ℕ_discrete}
use native.Mathlib.Nat.{sub-zero}
use native.Mathlib.Numerals.{add-one}
use lib.Dec.{eqb}
use borrow.Author.Tests.{eq-eqb, ne_eqb}
use lib.ListN.{length, get_or, set, take, drop, replicate, length-set, length-take, take-append-drop}
use lib.Seq.{length-take-le, drop-set-lt, drop-drop, get_or-take, ext_get_or}
use Rattle.meaning.specs.Context.{Row}
use Rattle.meaning.specs.Rules.{Pattern, Literal, Found, found, nothing}
use Rattle.meaning.specs.ByTable.{same_list}
use Rattle.meaning.specs.FirstBy.{lowest, or_else}
use Rattle.meaning.specs.Pruning.{fails, due}
use Rattle.meaning.proofs.Logic.{false-true, or_right}
use Rattle.meaning.proofs.Lists.{same_list-true, same_list-self}
use Rattle.search.specs.declared.Kind.TheVariants.{Breach}
use Rattle.search.specs.declared.Reply.{Reply}
use Rattle.values.specs.Chains.{Chained}
use Rattle.values.specs.Reading.{Listed, read_of}
use Rattle.search.specs.Hunting.{stage_of, dead_of, try_each, enter_of, attempt_of, hunt_of, enter_from, start_of, alone_of, rows_of, answer_of, is_breach, Planned, Ready, Hunting, Chosen}

pub breach-answer : (k : ℕ) (chosen : List ℕ) → k ≤ 4 → Chosen k chosen → ◌≡◌ {A = Reply} (record { kind = Breach k; places = chosen }) (answer_of (found (take k chosen)))
unfolding answer_of
breach-answer k chosen h c =
    let e : length (take k chosen) ≡ k = length-take-le k chosen (omega (arith, c.long)) in
    rw e (ap (λ l. record { kind = Breach k; places = l }) (sym (ap (take k chosen ++◌) (sym c.rest) ∙ take-append-drop k chosen)))

-- ---- the rows of a variable

module _ (f : ℕ → Found) (mark : ℕ) where
  alone-is : (l : List ℕ) (b : Bool) → eqb mark 1 ≡ b → alone_of mark l ≡ elim b [ true ↦ take 1 l | false ↦ l ]
  unfolding alone_of
  alone-is l b q = rw (q, alone_of)

  or_nothing : (x : Found) → or_else x nothing ≡ x
  unfolding or_else
  or_nothing (found a) = refl
  or_nothing nothing = refl

  module _ (x : ℕ) (l : List ℕ) (r : Reply) (b : Bool) (e : r ≡ answer_of (f x)) (q : b ≡ (is_breach r.kind || eqb mark 1)) where
    is-breach : is_breach r.kind ≡ is_breach (answer_of (f x)).kind
    is-breach = ap (λ (y : Reply). is_breach y.kind) e

    -- the answer for a row that settles the search of its variable
    row-settles : b ≡ true → r ≡ answer_of (try_each f (alone_of mark (x ∷ l)))
    unfolding answer_of try_each or_else
    row-settles t = go (eqb mark 1) refl (f x) refl
      where
        go : (m : Bool) → eqb mark 1 ≡ m → (d : Found) → f x ≡ d → r ≡ answer_of (try_each f (alone_of mark (x ∷ l)))
        go true p d w = e ∙ ap answer_of (sym (ap (try_each f) (alone-is (x ∷ l) true p) ∙ or_nothing (f x)))
        go false p (found a) w = e ∙ ap answer_of (sym (ap (try_each f) (alone-is (x ∷ l) false p) ∙ ap (λ (y : Found). or_else y (try_each f l)) w ∙ sym w))
        go false p nothing w =
            false-true (sym q ∙ t) (ap₂ ◌||◌ (is-breach ∙ ap (λ (y : Found). is_breach (answer_of y).kind) w) p)

    -- a row that does not settle it leaves the rows after it
    row-passes : b ≡ false → try_each f (alone_of mark (x ∷ l)) ≡ try_each f (alone_of mark l)
    unfolding answer_of try_each or_else
    row-passes t = go (eqb mark 1) refl (f x) refl
      where
        go : (m : Bool) → eqb mark 1 ≡ m → (d : Found) → f x ≡ d → try_each f (alone_of mark (x ∷ l)) ≡ try_each f (alone_of mark l)
        go true p d w = false-true (or_right (is_breach r.kind) (eqb mark 1) p) (sym q ∙ t)
        go false p (found a) w =
            false-true (ap₂ ◌||◌ (is-breach ∙ ap (λ (y : Found). is_breach (answer_of y).kind) w) p) (sym q ∙ t)
        go false p nothing w =
            ap (try_each f) (alone-is (x ∷ l) false p) ∙ ap (λ (y : Found). or_else y (try_each f l)) w ∙ ap (try_each f) (sym (alone-is l false p))

pub settled-left : (b x m : Bool) → b ≡ x → b ≡ false → m ≡ (x || m)
settled-left b x m e f = ap (◌|| m) (sym f ∙ e)

-- ---- the rows that are their own representatives

module _ (rep : ℕ → ℕ) (n : ℕ) where
  lowest-own : (i : ℕ) → i < n → rep i ≡ i → lowest rep i (n - i) ≡ i ∷ lowest rep (i + 1) (n - (i + 1))
  unfolding lowest
  lowest-own i h q = let e : n - i ≡ suc (n - (i + 1)) = omega arith in rw (e, eq-eqb (rep i) i q, lowest, add-one i)

  lowest-other : (i : ℕ) → i < n → (rep i ≡ i → ⊥) → lowest rep i (n - i) ≡ lowest rep (i + 1) (n - (i + 1))
  unfolding lowest
  lowest-other i h q = let e : n - i ≡ suc (n - (i + 1)) = omega arith in rw (e, ne_eqb (rep i) i q, lowest, add-one i)

-- ---- the row that a variable begins with

-- the rows chosen before variable j are those of an assignment
pub record Tight (from chosen : List ℕ) (j : ℕ) : Type 0 where
  pub each : (i : ℕ) → i < j → get_or chosen i 0 ≡ get_or from i 0

module _ (from chosen : List ℕ) where
  pub begins-start : Tight from chosen 0
  begins-start = record { each = λ i h. absurd (omega arith) }

  pub begins-next : (j x : ℕ) → Tight from chosen j → x ≡ get_or chosen j 0 → x ≡ get_or from j 0 → Tight from chosen (j + 1)
  begins-next j x t e q = record { each = λ i h. go i h (ℕ_discrete i j) }
    where
      go : (i : ℕ) → i < j + 1 → Dec (i ≡ j) → get_or chosen i 0 ≡ get_or from i 0
      go i h (yes w) = rw w (sym e ∙ q)
      go i h (no w) = t.each i (omega (arith, w))

module _ (from chosen : List ℕ) (k : ℕ) where
  start_is : (b : Bool) → same_list (take k chosen) (take k from) ≡ b → start_of from k chosen ≡ elim b [ true ↦ get_or from k 0 | false ↦ 0 ]
  unfolding start_of
  start_is b q = rw (q, start_of)

  pub begins-other : (j x n : ℕ) → n ≡ k → j < n → x ≡ get_or chosen j 0 → (x ≡ get_or from j 0 → ⊥) → 0 ≡ start_of from k chosen
  begins-other j x n m h e q = sym (start_is false (go (same_list (take k chosen) (take k from)) refl))
    where
      go : (b : Bool) → same_list (take k chosen) (take k from) ≡ b → same_list (take k chosen) (take k from) ≡ false
      go false w = w
      go true w =
          let l : take k chosen ≡ take k from = same_list-true (take k chosen) (take k from) w in
          absurd (q (e ∙ sym (get_or-take k chosen j 0 (omega arith)) ∙ ap (λ (y : List ℕ). get_or y j 0) l ∙ get_or-take k from j 0 (omega arith)))

  pub begins-done : (j n : ℕ) → length chosen ≡ 4 → length from ≡ 4 → k < 4 → n ≡ k → n ≤ j → Tight from chosen j → get_or from n 0 ≡ start_of from k chosen
  begins-done j n lc lf h e g t =
      let w : take k chosen ≡ take k from =
      ext_get_or 0 (take k chosen) (take k from) (omega (arith, length-take k chosen, length-take k from))
      (λ i l. get_or-take k chosen i 0 (omega (arith, length-take k chosen)) ∙ t.each i (omega (arith, length-take k chosen)) ∙ sym (get_or-take k from i 0 (omega (arith, length-take k chosen)))) in
      ap (λ i. get_or from i 0) e ∙ sym (start_is true (ap (same_list (take k chosen)) (sym w) ∙ same_list-self (take k chosen)))

-- ---- one level

module _ (rows : List Row) (rep : ℕ → ℕ) (ps : List Pattern) (order ends : List ℕ) (differs : ℕ → ℕ → Bool) (levels : List ℕ) (ls : List Literal)
    (rows_for : ℕ → List ℕ → List ℕ) (n k : ℕ) (chosen values v : List ℕ) (j from to : ℕ) (b : Bool)
    (ej : j ≡ k) (ef : from ≡ get_or ends j 0) (et : to ≡ get_or ends (j + 1) 0)
    (ev : v ≡ read_of rows rep ps order chosen values from to) (eb : b ≡ not (fails differs (due k levels) v ls)) where
  stage_at : v ≡ stage_of rows rep ps order ends k chosen values
  unfolding stage_of
  stage_at =
      let f : from ≡ get_or ends k 0 = ef ∙ ap (λ x. get_or ends x 0) ej in
      let t : to ≡ get_or ends (suc k) 0 = et ∙ ap (λ x. get_or ends x 0) (add-one j ∙ ap suc ej) in
      ev ∙ ap₂ (read_of rows rep ps order chosen values) f t

  dead-at : (c : Bool) → b ≡ not c → dead_of differs levels ls k (stage_of rows rep ps order ends k chosen values) ≡ c
  unfolding dead_of
  dead-at c w =
      ap (λ x. fails differs (due k levels) x ls) (sym stage_at) ∙ not_same (fails differs (due k levels) v ls) c (sym eb ∙ w)
    where
      not_same : (x y : Bool) → not x ≡ not y → x ≡ y
      not_same true true q = refl
      not_same true false q = absurd (let z : ◌≡◌ {A = ℕ} 0 1 = cc in omega arith)
      not_same false true q = absurd (let z : ◌≡◌ {A = ℕ} 0 1 = cc in omega arith)
      not_same false false q = refl

  pub enter-dead : b ≡ false → nothing ≡ enter_from (stage_of rows rep ps order ends) (dead_of differs levels ls) rows_for n k chosen values
  unfolding enter_of enter_from
  enter-dead w = rw (dead-at true w, enter_of)

  pub enter-live : b ≡ true
      → hunt_of (stage_of rows rep ps order ends) (dead_of differs levels ls) rows_for n k chosen v ≡ enter_from (stage_of rows rep ps order ends) (dead_of differs levels ls) rows_for n k chosen values
  unfolding enter_of enter_from
  enter-live w = rw (dead-at false w, enter_of) (ap (hunt_of (stage_of rows rep ps order ends) (dead_of differs levels ls) rows_for n k chosen) stage_at)

pub planned-listed : {order ends : List ℕ} {patterns : ℕ} → Planned order ends patterns → (k j to : ℕ) → j ≡ k → k ≤ 4 → to ≡ get_or ends (j + 1) 0 → Listed order to patterns
planned-listed p k j to e h q = rw (q, e) (p.listed (k + 1) (omega arith))

pub planned-rises : {order ends : List ℕ} {patterns : ℕ} → Planned order ends patterns → (k j from to : ℕ) → j ≡ k → k ≤ 4 → from ≡ get_or ends j 0 → to ≡ get_or ends (j + 1) 0 → from ≤ to
planned-rises p k j from to e h f q = rw (f, q, e, add-one k) (p.rises k (omega arith))

-- ---- the choice

pub chosen-next : (k x : ℕ) (chosen : List ℕ) → k < 4 → Chosen k chosen → Chosen (k + 1) (set chosen k x)
chosen-next k x chosen h c =
    record {
      long = length-set chosen k x ∙ c.long;
      rest = rw (add-one k) (drop-set-lt (suc k) chosen k x (omega arith) ∙ sym (rw (add-one k) at (drop-drop 1 k chosen)) ∙ ap (drop 1) c.rest ∙ last);
    }
  where
    last : drop {A = ℕ} 1 (replicate (4 - k) 255) ≡ replicate (4 - suc k) 255
    last = let e : 4 - k ≡ suc (4 - suc k) = omega arith in rw e

-- ---- variables

-- the rows of a variable from row i on are still to be tried
pub record Trying (rep : ℕ → ℕ) (n : ℕ) (f : ℕ → Found) (mark : ℕ) (whole : Found) (i : ℕ) : Type 0 where
  pub left : whole ≡ try_each f (alone_of mark (lowest rep i (n - i)))

module _ (rep : ℕ → ℕ) (n : ℕ) (f : ℕ → Found) (mark : ℕ) (whole : Found) where
  pub trying-other : (i x : ℕ) → Trying rep n f mark whole i → i < n → x ≡ rep i → (x ≡ i → ⊥) → Trying rep n f mark whole (i + 1)
  trying-other i x t h e w =
      record { left = t.left ∙ ap (λ (l : List ℕ). try_each f (alone_of mark l)) (lowest-other rep n i h (λ q. w (e ∙ q))) }

  pub trying-found : (i x : ℕ) (r : Reply) (b : Bool) → Trying rep n f mark whole i → i < n → x ≡ rep i → x ≡ i → r ≡ answer_of (f i)
      → b ≡ (is_breach r.kind || eqb mark 1) → b ≡ true → r ≡ answer_of whole
  trying-found i x r b t h ex own e q w =
      row-settles f mark i (lowest rep (i + 1) (n - (i + 1))) r b e q w
      ∙ ap answer_of (sym (t.left ∙ ap (λ (l : List ℕ). try_each f (alone_of mark l)) (lowest-own rep n i h (sym ex ∙ own))))

  pub trying-next : (i x : ℕ) (r : Reply) (b : Bool) → Trying rep n f mark whole i → i < n → x ≡ rep i → x ≡ i → r ≡ answer_of (f i)
      → b ≡ (is_breach r.kind || eqb mark 1) → b ≡ false → Trying rep n f mark whole (i + 1)
  trying-next i x r b t h ex own e q w =
      record {
        left =
            t.left ∙ ap (λ (l : List ℕ). try_each f (alone_of mark l)) (lowest-own rep n i h (sym ex ∙ own))
            ∙ row-passes f mark i (lowest rep (i + 1) (n - (i + 1))) r b e q w;
      }

  pub trying-done : (i : ℕ) → Trying rep n f mark whole i → n ≤ i → nothing ≡ whole
  unfolding lowest try_each
  trying-done i t h =
      let e : n - i ≡ 0 = omega arith in
      sym (t.left ∙ ap (λ m. try_each f (alone_of mark (lowest rep i m))) e ∙ go (eqb mark 1) refl)
    where
      go : (b : Bool) → eqb mark 1 ≡ b → try_each f (alone_of mark []) ≡ nothing
      go true q = ap (try_each f) (alone-is f mark [] true q)
      go false q = ap (try_each f) (alone-is f mark [] false q)

module _ (read : ℕ → List ℕ → List ℕ → List ℕ) (dead : ℕ → List ℕ → Bool) where
  pub hunt-leaf : (rows_for : ℕ → List ℕ → List ℕ) (k : ℕ) (chosen values : List ℕ) (variables : ℕ) → variables ≤ k
      → found (take k chosen) ≡ hunt_of read dead rows_for (variables - k) k chosen values
  unfolding hunt_of
  hunt-leaf rows_for k chosen values variables h = let e : variables - k ≡ 0 = omega arith in rw e

  pub trying_start : (rep : ℕ → ℕ) (n : ℕ) (free from : List ℕ) (k : ℕ) (chosen values : List ℕ) (variables j mark s : ℕ) → k < variables → j ≡ k → mark ≡ get_or free j 0
      → s ≡ start_of from k chosen
      → Trying rep n (attempt_of read dead (hunt_of read dead (rows_of rep n free from) (variables - (k + 1)) (k + 1)) k chosen values) mark
      (hunt_of read dead (rows_of rep n free from) (variables - k) k chosen values) s
  unfolding hunt_of rows_of
  trying_start rep n free from k chosen values variables j mark s h ej em es =
      record {
        left =
            ap (λ m. hunt_of read dead (rows_of rep n free from) m k chosen values) e
            ∙ ap (λ m. try_each (attempt_of read dead (hunt_of read dead (rows_of rep n free from) (variables - (k + 1)) m) k chosen values) (rows_of rep n free from k chosen)) (sym (add-one k))
            ∙ ap₂ (λ (m t : ℕ). try_each f (alone_of m (lowest rep t (n - t)))) (sym (em ∙ ap (λ x. get_or free x 0) ej)) (sym es);
      }
    where
      e : variables - k ≡ suc (variables - (k + 1))
      e = omega arith

      f : ℕ → Found
      f = attempt_of read dead (hunt_of read dead (rows_of rep n free from) (variables - (k + 1)) (k + 1)) k chosen values

  pub attempt-enter : (rows_for : ℕ → List ℕ → List ℕ) (m k : ℕ) (chosen values : List ℕ) (x : ℕ) (c : List ℕ) (r : Reply) → c ≡ set chosen k x
      → r ≡ answer_of (enter_from read dead rows_for m (k + 1) c values) → r ≡ answer_of (attempt_of read dead (hunt_of read dead rows_for m (k + 1)) k chosen values x)
  unfolding attempt_of enter_from
  attempt-enter rows_for m k chosen values x c r e q = q ∙ ap answer_of (rw (e, add-one k))

  pub start-enter : (rows_for : ℕ → List ℕ → List ℕ) (variables : ℕ) (c v : List ℕ) → c ≡ replicate 4 255 → v ≡ replicate 64 0
      → enter_from read dead rows_for (variables - 0) 0 c v ≡ enter_from read dead rows_for variables 0 (replicate 4 255) (replicate 64 0)
  start-enter rows_for variables c v p q = rw (sub-zero variables, p, q)

pub ready-hunting : {symbols counts args : List ℕ} {rows : ℕ} {first next shapes heads arities subs : List ℕ} {patterns : ℕ}
    {order ends firsts seconds : List ℕ} {literals variables : ℕ}
    → Ready counts args rows shapes heads arities subs patterns order ends firsts seconds literals variables → Chained symbols rows first next
    → Hunting symbols counts args rows first next shapes heads arities subs patterns order ends firsts seconds literals variables
ready-hunting r c =
    record {
      ledger = record { few = r.rows_few; laid = r.laid; chained = c };
      rule = r.rule;
      planned = r.planned;
      tested = r.tested;
      few = r.few;
    }

pub chosen-start : (c : List ℕ) → c ≡ replicate 4 255 → Chosen 0 c
chosen-start c e = rw e (record { long = refl; rest = refl })
