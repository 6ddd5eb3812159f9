-- The frames as `verify` reads them: the steps and the conclusions that they were written from.
--     Words, Narrows         words of 64 bits; conclusions whose fields fit on their lines
--     frames-steps           the steps
--     frames-conclusions     the conclusions
-- Assumes nothing.
use mathlib.Core.List.{List, [], ◌∷◌, ◌++◌, append-nil, append_assoc}
use mathlib.Core.Path.{◌≡◌, refl, sym, ap, ◌∙◌}
use Prim.Native.Nat.{ℕ, zero, suc, ◌+◌, ◌-◌, ◌≤◌, ◌<◌, min}
use native.Mathlib.Omega.{arith}
use lib.ListN.{length, get_or, take, drop, length-map, get_or-map}
use lib.Seq.{drop-cons}
use Rattle.meaning.specs.Text.{Line, lines_from, lines_of}
use Rattle.meaning.specs.Writing.{hex}
use Rattle.meaning.specs.Grounds.{Step, Conclusion}
use Rattle.meaning.specs.GroundColumns.{conclusions_from}
use Rattle.runs.specs.Limits.{most_literals}
use Rattle.grounds_steps.specs.Steps.{word_in, words_of, step_of, steps_of}
use Rattle.meaning.proofs.Lines.{whole, frame-line}
use Rattle.grounds_verdict.specs.declared.Conclusions.{Conclusions}
use Rattle.reply_lines.specs.Pieces.{run}
use Rattle.reply_lines.proofs.Running.{run-snoc}
use Rattle.grounds_intake.specs.Parsing.{good_line, digits_of, step_words, steps_in, conclusions_in}
use Rattle.grounds_lines.specs.Lines.{step_bytes, step_frame, end_bytes, end_frame, end_of, item_frame}
use Rattle.grounds_lines.specs.Filling.{step_count, item_count, line_in, frames_from}
use Rattle.grounds_lines.proofs.Frames.{step-item, end-item}
use Rattle.grounds_lines.proofs.Filling.{run-append}
use Rattle.grounds_lines.proofs.Readback.{step-concludes, step-first, step-second, step-third, Narrow, end-concludes, end_back}

abbrev pub Words : List (List ℕ) → Type 0
Words l = (p i : ℕ) → word_in l p i < 18446744073709551616

abbrev pub Narrows : Conclusions → Type 0
Narrows d = (j : ℕ) → j < most_literals → Narrow (end_of d j)

-- ---- a line more

abbrev words_read : Line → List ℕ
words_read l = step_words (good_line l) (length l.bytes) (digits_of l)

words_step_lem : (x y z : ℕ) (ls : List Line) → steps_in (whole (hex (step_bytes x y z)) ∷ ls) ≡ words_read (whole (hex (step_bytes x y z))) ∷ steps_in ls
unfolding steps_in
words_step_lem x y z ls = rw (step-concludes x y z) refl

words-end : (c : Conclusion) (ls : List Line) → steps_in (whole (hex (end_bytes c)) ∷ ls) ≡ steps_in ls
unfolding steps_in
words-end c ls = rw (end-concludes c) refl

ends-step : (x y z : ℕ) (ls : List Line) → conclusions_in (whole (hex (step_bytes x y z)) ∷ ls) ≡ conclusions_in ls
unfolding conclusions_in
ends-step x y z ls = rw (step-concludes x y z) refl

ends-end : (c : Conclusion) → Narrow c → (ls : List Line) → conclusions_in (whole (hex (end_bytes c)) ∷ ls) ≡ c ∷ conclusions_in ls
unfolding conclusions_in
ends-end c h ls = rw (end-concludes c, end_back c h) refl

-- ---- items

module _ (steps : List (List ℕ)) (n : ℕ) (d : Conclusions) where
  abbrev piece : ℕ → List ℕ
  piece = item_frame steps n d

  abbrev step_at : ℕ → Line
  step_at p = whole (hex (step_bytes (word_in steps p 0) (word_in steps p 1) (word_in steps p 2)))

  step_line_lem : (p : ℕ) (w : List ℕ) → p < n → lines_of (piece p ++ w) ≡ step_at p ∷ lines_of w
  unfolding step_frame
  step_line_lem p w h =
      ap (λ (l : List ℕ). lines_of (l ++ w)) (sym (step-item steps n d p h))
      ∙ frame-line (step_bytes (word_in steps p 0) (word_in steps p 1) (word_in steps p 2)) w

  end_line_lem : (p : ℕ) (w : List ℕ) → n ≤ p → lines_of (piece p ++ w) ≡ whole (hex (end_bytes (end_of d (p - n)))) ∷ lines_of w
  unfolding end_frame
  end_line_lem p w h =
      ap (λ (l : List ℕ). lines_of (l ++ w)) (sym (end-item steps n d p h)) ∙ frame-line (end_bytes (end_of d (p - n))) w

  -- one piece before others
  run-first : (k p : ℕ) (w : List ℕ) → run piece p (suc k) ++ w ≡ piece p ++ (run piece (suc p) k ++ w)
  unfolding run
  run-first k p w = append_assoc (piece p) (run piece (suc p) k) w

  -- ---- steps

  module _ (long : n ≤ length steps) (back : (p : ℕ) → words_read (step_at p) ≡ words_of (word_in steps p 0) (word_in steps p 1) (word_in steps p 2)) where
    abbrev read_back : List ℕ → List Step
    read_back w = steps_of (steps_in (lines_of w))

    one-step : (p : ℕ) (ls : List Line) → p < n → steps_of (steps_in (step_at p ∷ ls)) ≡ get_or (steps_of steps) p (step_of []) ∷ steps_of (steps_in ls)
    unfolding steps_of
    one-step p ls h =
        ap steps_of (words_step_lem (word_in steps p 0) (word_in steps p 1) (word_in steps p 2) ls)
        ∙ ap (λ (x : Step). x ∷ steps_of (steps_in ls)) (ap step_of (back p) ∙ sym (get_or-map step_of steps p []))

    steps-steps : (k p : ℕ) (w : List ℕ) → p + k ≤ n → read_back (run piece p k ++ w) ≡ take k (drop p (steps_of steps)) ++ read_back w
    unfolding run steps_of
    steps-steps zero p w h = refl
    steps-steps (suc k) p w h =
        ap read_back (run-first k p w) ∙ ap (λ (ls : List Line). steps_of (steps_in ls)) (step_line_lem p (run piece (suc p) k ++ w) (omega arith))
        ∙ one-step p (lines_of (run piece (suc p) k ++ w)) (omega arith)
        ∙ ap (λ (l : List Step). get_or (steps_of steps) p (step_of []) ∷ l) (steps-steps k (suc p) w (omega arith))
        ∙ ap (λ (l : List Step). take (suc k) l ++ read_back w) (sym (drop-cons (steps_of steps) p (step_of []) (omega (arith, length-map steps step_of))))

    steps-ends : (k p : ℕ) → n ≤ p → steps_in (lines_of (run piece p k)) ≡ []
    unfolding run steps_in lines_of lines_from
    steps-ends zero p h = refl
    steps-ends (suc k) p h =
        ap steps_in (end_line_lem p (run piece (suc p) k) h) ∙ words-end (end_of d (p - n)) (lines_of (run piece (suc p) k))
        ∙ steps-ends k (suc p) (omega arith)

    pub steps_all : (m : ℕ) → read_back (run piece 0 (n + m)) ≡ take n (steps_of steps)
    unfolding steps_of
    steps_all m =
        ap read_back (run-append piece 0 n m) ∙ steps-steps n 0 (run piece (0 + n) m) (omega arith)
        ∙ ap (λ (l : List (List ℕ)). take n (steps_of steps) ++ steps_of l) (steps-ends m (0 + n) (omega arith)) ∙ append-nil (take n (steps_of steps))

  -- ---- conclusions

  ends-steps : (k p : ℕ) (w : List ℕ) → p + k ≤ n → conclusions_in (lines_of (run piece p k ++ w)) ≡ conclusions_in (lines_of w)
  unfolding run
  ends-steps zero p w h = refl
  ends-steps (suc k) p w h =
      ap (λ (l : List ℕ). conclusions_in (lines_of l)) (run-first k p w) ∙ ap conclusions_in (step_line_lem p (run piece (suc p) k ++ w) (omega arith))
      ∙ ends-step (word_in steps p 0) (word_in steps p 1) (word_in steps p 2) (lines_of (run piece (suc p) k ++ w)) ∙ ends-steps k (suc p) w (omega arith)

  ends-ends : Narrows d → (k : ℕ) (w : List ℕ) → k ≤ most_literals
      → conclusions_in (lines_of (run piece n k ++ w)) ≡ conclusions_from d.firsts d.differences k ++ conclusions_in (lines_of w)
  unfolding run conclusions_from
  ends-ends h zero w l = refl
  ends-ends h (suc k) w l =
      let e : (n + k) - n ≡ k = omega arith in
      ap (λ (z : List ℕ). conclusions_in (lines_of (z ++ w))) (run-snoc piece n k)
      ∙ ap (λ (z : List ℕ). conclusions_in (lines_of z)) (append_assoc (run piece n k) (piece (n + k)) w)
      ∙ ends-ends h k (piece (n + k) ++ w) (omega arith)
      ∙ ap (λ (z : List Line). before ++ conclusions_in z) (end_line_lem (n + k) w (omega arith))
      ∙ ap (λ (j : ℕ). before ++ conclusions_in (whole (hex (end_bytes (end_of d j))) ∷ lines_of w)) e
      ∙ ap (λ (z : List Conclusion). before ++ z) (ends-end (end_of d k) (h k (omega arith)) (lines_of w))
      ∙ sym (append_assoc before (end_of d k ∷ []) (conclusions_in (lines_of w)))
    where
      before : List Conclusion
      before = conclusions_from d.firsts d.differences k

  pub ends-all : Narrows d → (m : ℕ) → m ≤ most_literals → conclusions_in (lines_of (run piece 0 (n + m))) ≡ conclusions_from d.firsts d.differences m
  unfolding conclusions_in lines_of lines_from
  ends-all h m l =
      let e : 0 + n ≡ n = omega arith in
      ap (λ (z : List ℕ). conclusions_in (lines_of z)) (run-append piece 0 n m) ∙ ends-steps n 0 (run piece (0 + n) m) (omega arith)
      ∙ ap (λ (i : ℕ). conclusions_in (lines_of (run piece i m))) e ∙ ap (λ (z : List ℕ). conclusions_in (lines_of z)) (sym (append-nil (run piece n m)))
      ∙ ends-ends h m [] l ∙ append-nil (conclusions_from d.firsts d.differences m)

-- ---- the frames

module _ (steps : List (List ℕ)) (many : ℕ) (d : Conclusions) (literals : ℕ) where
  abbrev frames : List ℕ
  frames = frames_from steps many d literals 0

  abbrev n : ℕ
  n = step_count steps many

  whole_run : frames ≡ run (line_in steps many d) 0 (n + min literals most_literals)
  whole_run = let e : item_count steps many literals - 0 ≡ n + min literals most_literals = omega arith in ap (run (line_in steps many d) 0) e

  pub frames-steps : Words steps → steps_of (steps_in (lines_of frames)) ≡ take n (steps_of steps)
  frames-steps h =
      ap (λ (z : List ℕ). steps_of (steps_in (lines_of z))) whole_run
      ∙ steps_all steps n d (omega arith) words_back (min literals most_literals)
    where
      words_back : (p : ℕ) → words_read (step_at steps n d p) ≡ words_of (word_in steps p 0) (word_in steps p 1) (word_in steps p 2)
      words_back p =
          rw (
            step-first (word_in steps p 0) (word_in steps p 1) (word_in steps p 2) (h p 0),
            step-second (word_in steps p 0) (word_in steps p 1) (word_in steps p 2) (h p 1),
            step-third (word_in steps p 0) (word_in steps p 1) (word_in steps p 2) (h p 2),
          )

  pub frames-conclusions : Narrows d → conclusions_in (lines_of frames) ≡ conclusions_from d.firsts d.differences (min literals most_literals)
  frames-conclusions h =
      ap (λ (l : List ℕ). conclusions_in (lines_of l)) whole_run ∙ ends-all steps n d h (min literals most_literals) (omega arith)
