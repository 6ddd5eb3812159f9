-- Lines at the front of 32 bytes.
--     prints-one, line-one    a line is printed in one way
-- Assumes nothing.
use mathlib.Core.List.{List, [], ◌∷◌, ◌++◌, map}
use mathlib.Core.Bool.{Bool, true, false}
use mathlib.Core.Path.{◌≡◌, refl, sym, ap, subst, ◌∙◌}
use Prim.Native.Nat.{ℕ, zero, suc, ◌+◌, ◌-◌, ◌/◌, ◌≤◌, min}
use native.Mathlib.Nat.{zero-add}
use native.Mathlib.Omega.{arith}
use borrow.Author.Rules.{rules}
use lib.ListN.{length, get_or, take, drop, replicate, length-map, length-take, length-replicate}
use lib.Dec.{ltb}
use borrow.Author.Tests.{ltb-true, ltb-false}
use lib.Seq.{length-take-le, take_all, take-nil}
use Rattle.std.proofs.Math.Bridge.{le_prop}
use Rattle.meaning.specs.Writing.{frame}
use Rattle.meaning.specs.Replies.{breach, none, refused, printed, code_of, values_of}
use Rattle.replies.specs.Told.{meant}
use Rattle.replies.specs.declared.Refusal.{Refusal}
use Rattle.replies.specs.declared.Outcome.{Outcome}
use Rattle.replies.specs.declared.Outcome.TheVariants as O
use Rattle.reply_lines.specs.Pieces.{low8, Put, LineRoom}
use Rattle.reply_lines.specs.Prints.{Prints, line_by}
use Rattle.reply_lines.specs.declared.Line.{Line}
use Rattle.reply_lines.proofs.Stores.{put-length, put_whole}
use Rattle.reply_lines.proofs.Lines.{length-frame}

pub prints-one : {line a b : List ℕ} {m n : ℕ} → Prints line a m → Prints line b n → (a ≡ b) × (m ≡ n)
prints-one p q = (p.front ∙ sym q.front, p.size ∙ sym q.size)

-- the bytes and the length are the line
same_line : (r : Line) (bytes : List ℕ) → r.bytes ≡ bytes → (len : ℕ) → r.len ≡ len → (within : len ≤ length bytes) → r ≡ record { bytes = bytes; len = len; within = within }
same_line r bytes e =
    subst (λ (b : List ℕ). (len : ℕ) → r.len ≡ len → (within : len ≤ length b) → r ≡ record { bytes = b; len = len; within = within }) e
    (λ len f.
    subst (λ (n : ℕ). (within : n ≤ length r.bytes) → r ≡ record { bytes = r.bytes; len = n; within = within }) f
    (λ within. ap (λ (w : r.len ≤ length r.bytes). record { bytes = r.bytes; len = r.len; within = w }) (le_prop r.within within)))

pub line-one : {line : List ℕ} (r s : Line) → Prints line r.bytes r.len → Prints line s.bytes s.len → r ≡ s
line-one r s p q = let w : (r.bytes ≡ s.bytes) × (r.len ≡ s.len) = prints-one p q in same_line r s.bytes w.0 s.len w.1 s.within

pub line-room : (n m : ℕ) → m ≡ min n 8 → LineRoom m 0 (replicate 32 0)
line-room n m h = record { few = omega arith; room = omega arith }

drop-zeros : (n m : ℕ) → drop {A = ℕ} n (replicate m 0) ≡ replicate (m - n) 0
drop-zeros zero m = let e : m - 0 ≡ m = omega arith in rw e
drop-zeros (suc n) zero = let e : 0 - suc n ≡ 0 = omega arith in rw e
drop-zeros (suc n) (suc m) = let e : suc m - suc n ≡ m - n = omega arith in rw e (drop-zeros n m)

-- past the last field there is none
take-least : (fields : List ℕ) (n m : ℕ) → length fields ≡ 8 → m ≡ min n 8 → take m fields ≡ take n fields
take-least fields n m e h = go (ltb n 8) refl
  where
    go : (b : Bool) → ltb n 8 ≡ b → take m fields ≡ take n fields
    go true q = let z : m ≡ n = omega (arith, ltb-true n 8 q) in rw z
    go false q = take_all m fields (omega (arith, ltb-false n 8 q)) ∙ sym (take_all n fields (omega (arith, ltb-false n 8 q)))

pub line-printed : (fields bytes : List ℕ) (n m len : ℕ) → length fields ≡ 8 → m ≡ min n 8 → Put (replicate 32 0) 0 (frame (take m fields)) len bytes
    → Prints (frame (take n fields)) bytes len
line-printed fields bytes n m len e h d =
    subst (λ (l : List ℕ). Prints (frame l) bytes len) (take-least fields n m e h)
    (record {
      size = d.place ∙ zero-add (length (frame (take m fields)));
      front = put_whole d small ∙ ap (λ (l : List ℕ). frame (take m fields) ++ l) (drop-zeros (length (frame (take m fields))) 32);
    })
  where
    small : length (frame (take m fields)) ≤ 32
    small = omega (arith, length-frame (take m fields), length-take-le m fields (omega arith))

pub line-within : (fields bytes : List ℕ) (m len : ℕ) → length fields ≡ 8 → m ≤ 8 → Put (replicate 32 0) 0 (frame (take m fields)) len bytes → len ≤ length bytes
line-within fields bytes m len e h d =
    omega (arith, d.place, put-length d, length-frame (take m fields), length-take-le m fields (omega arith), length-replicate {A = ℕ} 32 0)

-- ---- a breach of up to four variables

take-cut : (a b c d n m : ℕ) → m ≡ min n 4 → take m (a ∷ b ∷ c ∷ d ∷ 0 ∷ 0 ∷ []) ≡ take n (a ∷ b ∷ c ∷ d ∷ [])
take-cut a b c d zero m e = rw e
take-cut a b c d (suc zero) m e = rw e
take-cut a b c d (suc (suc zero)) m e = rw e
take-cut a b c d (suc (suc (suc zero))) m e = rw e
take-cut a b c d (suc (suc (suc (suc n)))) m e = let f : m ≡ 4 = omega arith in rw f (ap (λ (r : List ℕ). a ∷ b ∷ c ∷ d ∷ r) (sym (take-nil n)))

map-take : (f : ℕ → ℕ) (n : ℕ) (l : List ℕ) → map f (take n l) ≡ take n (map f l)
map-take f zero l = refl
map-take f (suc n) [] = refl
map-take f (suc n) (x ∷ l) = ap (λ (r : List ℕ). f x ∷ r) (map-take f n l)

four : (rows : List ℕ) → length rows ≡ 4 → rows ≡ get_or rows 0 0 ∷ get_or rows 1 0 ∷ get_or rows 2 0 ∷ get_or rows 3 0 ∷ []
four [] e = absurd (omega arith)
four (a ∷ []) e = absurd (omega arith)
four (a ∷ b ∷ []) e = absurd (omega arith)
four (a ∷ b ∷ c ∷ []) e = absurd (omega arith)
four (a ∷ b ∷ c ∷ d ∷ []) e = refl
four (a ∷ b ∷ c ∷ d ∷ x ∷ l) e = absurd (omega arith)

module _ (rows : List ℕ) (n m a b c d : ℕ) (l : length rows ≡ 4) (e : m ≡ min n 4)
    (ea : a ≡ low8 (get_or rows 0 0)) (eb : b ≡ low8 (get_or rows 1 0)) (ec : c ≡ low8 (get_or rows 2 0)) (ed : d ≡ low8 (get_or rows 3 0)) where
  breach-rows : take m (a ∷ b ∷ c ∷ d ∷ 0 ∷ 0 ∷ []) ≡ map low8 (take n rows)
  breach-rows =
      take-cut a b c d n m e ∙ rw (ea, eb, ec, ed) (sym (ap (λ (r : List ℕ). take n (map low8 r)) (four rows l)))
      ∙ sym (map-take low8 n rows)

  pub breach-printed : (bytes : List ℕ) (len : ℕ) → Prints (frame (take (m + 2) (8 ∷ m ∷ a ∷ b ∷ c ∷ d ∷ 0 ∷ 0 ∷ []))) bytes len
      → Prints (printed (breach (map low8 (take n rows)))) bytes len
  unfolding printed code_of values_of
  breach-printed bytes len p =
      let size : length (map low8 (take n rows)) ≡ m =
      length-map (take n rows) low8 ∙ length-take n rows ∙ omega arith in
      let two : m + 2 ≡ suc (suc m) = omega arith in
      rw (size, ← breach-rows) (rw two at p)

pub none-printed : (bytes : List ℕ) (len : ℕ) → Prints (frame (take 1 (9 ∷ 0 ∷ 0 ∷ 0 ∷ 0 ∷ 0 ∷ 0 ∷ 0 ∷ []))) bytes len → Prints (printed none) bytes len
unfolding printed code_of values_of
none-printed bytes len p = p

pub refusal-printed : (x : Refusal) (bytes : List ℕ) (a b c d len : ℕ) → a ≡ x.line / 256 → b ≡ low8 x.line → c ≡ x.offset / 256 → d ≡ low8 x.offset
    → Prints (frame (take 6 (10 ∷ x.number ∷ a ∷ b ∷ c ∷ d ∷ 0 ∷ 0 ∷ []))) bytes len → Prints (printed (refused (meant x))) bytes len
unfolding printed code_of values_of
refusal-printed x bytes a b c d len ea eb ec ed p = rw (← ea, ← eb, ← ec, ← ed) p

-- ---- the outcome's line, by cases

pub outcome-breach : (o : Outcome) (n m : ℕ) (places : List ℕ) (l : Line) → o ≡ O.Breach n → m ≡ n → Prints (line_by (O.Breach m) places) l.bytes l.len
    → Prints (line_by o places) l.bytes l.len
outcome-breach o n m places l e f p = rw (e, ← f) p

pub outcome-clear : (o : Outcome) (places : List ℕ) (l : Line) → o ≡ O.Clear → Prints (printed none) l.bytes l.len → Prints (line_by o places) l.bytes l.len
outcome-clear o places l e p = rw e p

pub outcome-refused : (o : Outcome) (x : Refusal) (places : List ℕ) (l : Line) → o ≡ O.Refused x → Prints (printed (refused (meant x))) l.bytes l.len
    → Prints (line_by o places) l.bytes l.len
outcome-refused o x places l e p = rw e p

pub ruleset mine = (rules, line-room, line-within, line-printed, breach-printed, none-printed, refusal-printed, outcome-breach, outcome-clear, outcome-refused)
