-- The values of pattern rows as the code finds them.
--     over-variable, over-symbol             one pattern row compared with a symbol over values
--     Meeting, meeting-start .. -ends        a walk along the rows already read
--     look-held, look-met                    a symbol over values looked up
--     term-list .. term-read, walk_end, walk_more   one row, and its arguments
--     read_next, read_done                   some rows of the order
-- Assumes nothing.
use mathlib.Core.Bool.{Bool, true, false, ◌&&◌}
use mathlib.Core.List.{List, [], ◌∷◌, ◌++◌, map, append-nil}
use mathlib.Core.Path.{◌≡◌, refl, sym, ap, ap₂, ◌∙◌}
use Prim.Native.Nat.{ℕ, suc, ◌+◌, ◌*◌, ◌≤◌, ◌<◌}
use native.Mathlib.Omega.{arith}
use native.Mathlib.Numerals.{add-one}
use lib.Dec.{eqb}
use borrow.Author.Tests.{lt-ltb, le-ltb}
use lib.ListN.{length, get_or, set, take, drop, length-take, drop_of_length-le}
use lib.Seq.{append_snoc, drop-cons, get_or-take, take-suc, take-suc-set, slice, slice-cons, slice_empty}
use Rattle.meaning.specs.Context.{Row}
use Rattle.meaning.specs.Rules.{Pattern}
use Rattle.meaning.specs.ByTable.{same_list}
use Rattle.meaning.specs.Columns.{args_at, patterns_from}
use Rattle.meaning.specs.Values.{pattern₀, pattern_at, number_at, args_of, Numbering, is_over, met, number_of, step, number}
use Rattle.meaning.proofs.Built.{pattern_in, patterns-at}
use Rattle.columns.proofs.Flat.{pattern-at-variable, pattern-at-symbol, arg-at, args-length}
use Rattle.std.specs.Prelude.{Option, Some, None}
use Rattle.values.specs.Chains.{Lined, Looked}
use Rattle.plan.specs.Planning.{RuleFit}
use Rattle.values.specs.Reading.{Shaped, Listed, state_of, look_of, term_of, read_of}

module _ {shapes heads arities subs : List ℕ} {q count : ℕ} (s : Shaped shapes heads arities subs q count) where
  pub shaped-lined : (get_or shapes q 0 ≡ 4 → ⊥) → Lined arities subs q count
  shaped-lined n = record { long = s.long; placed = s.pattern.symbol n; few = s.few }

  pub over-variable : (f : ℕ) (ns values : List ℕ) → get_or shapes q 0 ≡ 4 → false ≡ is_over f ns values (pattern_in shapes heads arities subs q)
  unfolding is_over
  over-variable f ns values e = rw (pattern-at-variable shapes heads arities subs q e)

  pub over-symbol : (f : ℕ) (ns values : List ℕ) (r : Bool) → (get_or shapes q 0 ≡ 4 → ⊥)
      → r ≡ (eqb f (get_or heads q 0) && same_list ns (map (number_at values) (args_at arities subs q)))
      → r ≡ is_over f ns values (pattern_in shapes heads arities subs q)
  unfolding is_over
  over-symbol f ns values r n e = rw (pattern-at-symbol shapes heads arities subs q n) e

-- ---- the rows already read

pub pattern-row : (shapes heads arities subs : List ℕ) (n q : ℕ) → q < n
    → pattern_at (patterns_from shapes heads arities subs n) q ≡ pattern_in shapes heads arities subs q
pattern-row shapes heads arities subs n q h =
    patterns-at shapes heads arities subs n q pattern₀ h

pub rule-shaped : {shapes heads arities subs : List ℕ} {n : ℕ} → RuleFit shapes heads arities subs n → (q count : ℕ) → q < n → count ≤ 4
    → Shaped shapes heads arities subs q count
rule-shaped r q count h few =
    record { inside = omega (arith, r.few); long = omega (arith, r.written.long); pattern = r.written.placed.each q h; few = few }

-- none of the rows before place j of the order is the one
pub record Meeting (ps : List Pattern) (f : ℕ) (ns values : List ℕ) (d : ℕ) (order : List ℕ) (read j : ℕ) : Type 0 where
  pub same : met ps f ns values d (take read order) ≡ met ps f ns values d (drop j (take read order))

pub meeting-start : {ps : List Pattern} {f : ℕ} {ns values : List ℕ} {d : ℕ} {order : List ℕ} {read : ℕ} → Meeting ps f ns values d order read 0
meeting-start = record { same = refl }

module _ {ps : List Pattern} {f : ℕ} {ns values : List ℕ} {d read j : ℕ} {order : List ℕ}
    (m : Meeting ps f ns values d order read j) where
  met-step : j < read → read ≤ length order
      → met ps f ns values d (take read order) ≡ met ps f ns values d (get_or order j 0 ∷ drop (suc j) (take read order))
  met-step h l =
      m.same ∙ rw (drop-cons (take read order) j 0 (omega (arith, length-take read order)), get_or-take read order j 0 h)

  pub meeting-next : (q : ℕ) (b : Bool) (p : Pattern) → j < read → read ≤ length order → q ≡ get_or order j 0 → pattern_at ps q ≡ p → b ≡ is_over f ns values p → b ≡ false
      → Meeting ps f ns values d order read (j + 1)
  unfolding met
  meeting-next q b p h l e s o z =
      record { same = rw (add-one j) (met-step h l ∙ rw (← e, s, met, ← o, z)) }

  pub meeting-found : (q : ℕ) (b : Bool) (p : Pattern) → j < read → read ≤ length order → q ≡ get_or order j 0 → pattern_at ps q ≡ p → b ≡ is_over f ns values p → b ≡ true
      → get_or values q 0 ≡ met ps f ns values d (take read order)
  unfolding met
  meeting-found q b p h l e s o z = sym (met-step h l ∙ rw (← e, s, met, ← o, z) (ap (number_at values) (sym e)))

  pub meeting-ends : read ≤ j → d ≡ met ps f ns values d (take read order)
  unfolding met
  meeting-ends h =
      let l : length (take read order) ≤ j = omega (arith, length-take read order) in
      let e : drop j (take read order) ≡ [] = drop_of_length-le (take read order) l in
      sym (m.same ∙ rw e)

-- ---- a symbol over values

module _ (rows : List Row) (rep : ℕ → ℕ) (ps : List Pattern) (f : ℕ) (wanted values done : List ℕ) (row n count : ℕ)
    (o : Option ℕ) (e : n ≡ count) (l : Looked rep f (take n wanted) rows o) where
  pub look-held : (v r : ℕ) → o ≡ Some v → r ≡ v → r ≡ look_of rows rep ps f (take count wanted) values done row
  look-held v r h q = rw (← e) (q ∙ l.found v h (met ps f (take n wanted) values (65536 + row) done))

  pub look-met : (r own : ℕ) → o ≡ None → own ≡ 65536 + row → r ≡ met ps f (take n wanted) values own done
      → r ≡ look_of rows rep ps f (take count wanted) values done row
  look-met r own h z q = q ∙ rw (z, ← e) (l.absent h (met ps f (take n wanted) values (65536 + row) done))

-- ---- one row

module _ (rows : List Row) (rep : ℕ → ℕ) (shapes heads arities subs : List ℕ) (patterns : ℕ) (order chosen values : List ℕ) (read fresh row : ℕ) where
  pub term-list : row < fresh → get_or values row 0 ≡ term_of rows rep (patterns_from shapes heads arities subs patterns) order chosen values read fresh row
  unfolding term_of
  term-list h = rw (lt-ltb row fresh h, term_of)

  pub term-variable : (x : ℕ) → fresh ≤ row → row < patterns → get_or shapes row 0 ≡ 4 → x ≡ get_or chosen (get_or heads row 0) 0
      → x ≡ term_of rows rep (patterns_from shapes heads arities subs patterns) order chosen values read fresh row
  unfolding term_of number_of
  term-variable x h l e q =
      rw (le-ltb row fresh h, term_of, pattern-row shapes heads arities subs patterns row l, pattern-at-variable shapes heads arities subs row e) q

  pub term-symbol : (x : ℕ) (w : List ℕ) → fresh ≤ row → row < patterns → (get_or shapes row 0 ≡ 4 → ⊥)
      → w ≡ args_of values (args_at arities subs row)
      → x ≡ look_of rows rep (patterns_from shapes heads arities subs patterns) (get_or heads row 0) w values (take read order) row
      → x ≡ term_of rows rep (patterns_from shapes heads arities subs patterns) order chosen values read fresh row
  unfolding term_of number_of
  term-symbol x w h l n e q =
      rw (le-ltb row fresh h, term_of, pattern-row shapes heads arities subs patterns row l, pattern-at-symbol shapes heads arities subs row n)
      (rw e at q)

  pub term-read : (x : ℕ) → row < fresh → x ≡ term_of rows rep (patterns_from shapes heads arities subs patterns) order chosen values read fresh row → x ≡ get_or values row 0
  term-read x h e = e ∙ sym (term-list h)

-- ---- the arguments

module _ {shapes heads arities subs : List ℕ} {patterns : ℕ} (r : RuleFit shapes heads arities subs patterns) (row : ℕ) (h : row < patterns) (n : get_or shapes row 0 ≡ 4 → ⊥) where
  pub rule-few : get_or arities row 0 ≤ 4
  rule-few = ((r.written.placed.each row h).symbol n).few

  pub rule-earlier : (k : ℕ) → k < get_or arities row 0 → get_or subs (row * 4 + k) 0 < row
  rule-earlier k l = ((r.written.placed.each row h).symbol n).earlier.each k l

  pub rule-long : length (args_at arities subs row) ≡ get_or arities row 0
  rule-long = args-length arities subs row (omega (arith, r.written.long, rule-few))

module _ (arities subs values : List ℕ) (row k : ℕ) (long : length (args_at arities subs row) ≡ get_or arities row 0) where
  pub walk_end : (done : List ℕ) → k ≤ get_or arities row 0 → get_or arities row 0 ≤ k
      → take (get_or arities row 0) done ≡ take k done ++ args_of values (drop k (args_at arities subs row))
  walk_end done h g =
      let e : get_or arities row 0 ≡ k = omega arith in
      let l : length (args_at arities subs row) ≤ k = omega arith in
      rw (drop_of_length-le (args_at arities subs row) l) (ap (λ x. take x done) e ∙ sym (append-nil (take k done)))

  pub walk_more : (done r : List ℕ) (a v : ℕ) → length done ≡ 4 → k < 4 → k < get_or arities row 0 → a ≡ get_or subs (row * 4 + k) 0 → v ≡ get_or values a 0
      → take (get_or arities row 0) r ≡ take (k + 1) (set done k v) ++ args_of values (drop (k + 1) (args_at arities subs row))
      → take (get_or arities row 0) r ≡ take k done ++ args_of values (drop k (args_at arities subs row))
  walk_more done r a v four few h p q e =
      e ∙ rw (add-one k, take-suc-set done k v (omega arith), drop-cons (args_at arities subs row) k 0 (omega arith), arg-at arities subs row k h, ← p, ← q)
      (append_snoc (take k done) v (args_of values (drop (suc k) (args_at arities subs row))))

-- ---- some rows of the order

pub listed-less : {order : List ℕ} {to patterns : ℕ} → Listed order to patterns → (j : ℕ) → j ≤ to → Listed order j patterns
listed-less l j h = record { long = omega (arith, l.long); short = omega (arith, l.short); rows = λ k b. l.rows k (omega arith) }

module _ (rows : List Row) (rep : ℕ → ℕ) (ps : List Pattern) (order chosen : List ℕ) where
  term_fresh : (values : List ℕ) (j row : ℕ)
      → term_of rows rep ps order chosen values j row row ≡ number_of rows rep 65536 ps chosen (state_of values order j) (65536 + row) (pattern_at ps row)
  unfolding term_of
  term_fresh values j row = rw (le-ltb row row (omega arith), term_of)

  state-next : (values : List ℕ) (j row v : ℕ) → j < length order → row ≡ get_or order j 0 → v ≡ term_of rows rep ps order chosen values j row row
      → step rows rep 65536 ps chosen (state_of values order j) row ≡ state_of (set values row v) order (suc j)
  unfolding step
  state-next values j row v h e q =
      ap₂ made (sym (q ∙ term_fresh values j row)) (ap (λ x. take j order ++ (x ∷ [])) e ∙ sym (take-suc order j 0 h))
    where
      made : ℕ → List ℕ → Numbering
      made x l = record { numbers = set values row x; done = l }

  pub read_next : (values : List ℕ) (to j row v : ℕ) → j < to → to ≤ length order → row ≡ get_or order j 0
      → v ≡ term_of rows rep ps order chosen values j row row
      → read_of rows rep ps order chosen values j to ≡ read_of rows rep ps order chosen (set values row v) (j + 1) to
  unfolding read_of number
  read_next values to j row v h l e q =
      ap (λ x. (number rows rep 65536 ps chosen (state_of values order j) x).numbers) (slice-cons j to order 0 h l ∙ ap (◌∷ slice (suc j) to order) (sym e))
      ∙ ap (λ x. (number rows rep 65536 ps chosen x (slice (suc j) to order)).numbers) (state-next values j row v (omega arith) e q)
      ∙ ap (λ x. (number rows rep 65536 ps chosen (state_of (set values row v) order x) (slice x to order)).numbers) (sym (add-one j))

  pub read_done : (values : List ℕ) (to j : ℕ) → to ≤ j → j ≤ to → values ≡ read_of rows rep ps order chosen values j to
  unfolding read_of number
  read_done values to j h l =
      let e : j ≡ to = omega arith in
      sym (ap (λ x. (number rows rep 65536 ps chosen (state_of values order j) x).numbers) (ap (λ x. slice x to order) e ∙ slice_empty to order))
