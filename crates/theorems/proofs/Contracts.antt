-- From the contracts of the code to what the theorems assume.
--     finds-rightly     whatever meets the finder's contract replies as defined
--     found-shown       the line that the finder's program gives is what it has to print
--     parsed-whole      an input that was fed to the reader of grounds, and ended, was taken apart
--     verify-shown      the line for it is what `verify` has to print
-- Assumes nothing.
use mathlib.Core.List.{List, []}
use mathlib.Core.Path.{◌≡◌, refl, sym, ap, ◌∙◌, subst}
use Prim.Native.Nat.{ℕ, ◌-◌}
use native.Mathlib.Omega.{arith}
use lib.ListN.{length, take, replicate}
use lib.Seq.{take_at}
use Rattle.meaning.specs.Text.{narrow}
use Rattle.meaning.specs.Replies as M
use Rattle.meaning.specs.Replies.{breach, none, refused, Replies, FindPrints, places_of}
use Rattle.meaning.proofs.Rightly.{RepliesRightly}
use Rattle.replies.specs.Told.{told_by, told_of}
use Rattle.replies.specs.declared.Outcome.{Outcome}
use Rattle.replies.specs.declared.Outcome.TheVariants.{Breach, Clear, Refused}
use Rattle.replies.specs.declared.Reply.{Reply}
use Rattle.reply_lines.specs.declared.Line.{Line}
use Rattle.outputs.specs.Claims.{PrintsFound}
use Rattle.grounds_intake.specs.Machine.{memory, fresh, fed}
use Rattle.grounds_intake.proofs.Standing.{Parsed, stands-start, stands-fed, parsed}
use Rattle.grounds_replies.specs.Replies.{VerifyPrints}
use Rattle.reply_lines.specs.Prints.{Prints}
use Rattle.grounds_replies.proofs.Verifying.{verify-prints}
use Rattle.theorems.specs.Said.{reply_by, Find, finder_of, shown_in, Spaces, ended, PrintsAfter}

-- ---- the finder

reply-read : (o : Outcome) (places : List ℕ) (r : M.Reply) → told_by o ≡ told_of r → places ≡ places_of r → r ≡ reply_by o places
unfolding places_of
reply-read (Breach n) places (breach a) e p =
    let h : n ≡ length a = cc in
    ap breach (sym (take_at a (replicate (4 - length a) 255) n (sym h)) ∙ ap (take n) (sym p))
reply-read (Breach n) places none e p = absurd (let z : ◌≡◌ {A = ℕ} 8 9 = cc in omega arith)
reply-read (Breach n) places (refused r) e p = absurd (let z : ◌≡◌ {A = ℕ} 8 10 = cc in omega arith)
reply-read Clear places (breach a) e p = absurd (let z : ◌≡◌ {A = ℕ} 9 8 = cc in omega arith)
reply-read Clear places none e p = refl
reply-read Clear places (refused r) e p = absurd (let z : ◌≡◌ {A = ℕ} 9 10 = cc in omega arith)
reply-read (Refused x) places (breach a) e p = absurd (let z : ◌≡◌ {A = ℕ} 10 8 = cc in omega arith)
reply-read (Refused x) places none e p = absurd (let z : ◌≡◌ {A = ℕ} 10 9 = cc in omega arith)
reply-read (Refused x) places (refused r) e p =
    let n : r.number ≡ x.number = cc in
    let l : r.place ≡ x.line = cc in
    let o : r.offset ≡ x.offset = cc in
    ap refused (rw (n, l, o))

pub finds-rightly : (f : List ℕ → Reply) → Find f → RepliesRightly (finder_of f)
finds-rightly f w text =
    subst (Replies narrow text) (reply-read (f text).outcome (f text).places (w text).reply (w text).told (w text).places) (w text).replies

pub found-shown : (input : List ℕ) (l : Line) → PrintsFound input l → FindPrints narrow input (shown_in l)
found-shown input l w =
    subst (FindPrints narrow input)
    (sym (ap (take l.len) w.front.front ∙ take_at w.line (replicate (32 - length w.line) 0) l.len (sym w.front.size)))
    w.prints

-- ---- the checker of grounds

module _ (text : List ℕ) (steps : List (List ℕ)) (spaces : Spaces text steps) (input : List ℕ) where
  parsed-whole : Parsed input (ended text steps input)
  parsed-whole =
      parsed input (fed input (memory fresh text steps))
      (stands-fed [] input (memory fresh text steps)
      (stands-start text steps spaces.text-long spaces.steps-long))

  pub verify-shown : (l : Line) → PrintsAfter (ended text steps input) l → VerifyPrints narrow input (shown_in l)
  verify-shown l p = shown (verify-prints input (ended text steps input) l parsed-whole p)
    where
      shown : (line : List ℕ) × VerifyPrints narrow input line × Prints line l.bytes l.len → VerifyPrints narrow input (shown_in l)
      shown w =
          subst (VerifyPrints narrow input)
          (sym (ap (take l.len) w.2.front ∙ take_at w.0 (replicate (32 - length w.0) 0) l.len (sym w.2.size)))
          w.1
