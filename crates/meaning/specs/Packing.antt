-- A reply as one number, for programs in other languages: kind + 256 · number + 65,536 · place + 4,294,967,296 · offset.
--     packed_reply      the finder's: kind 8 with the number of variables, 9, or 10 with a refusal's number, place and offset
--     packed_written    the normaliser's: kind 0 with how many bytes were written, or 10 with a refusal
-- Assumes nothing.
use Rattle.std.specs.Prelude.{ℕ, ◌+◌, ◌*◌, length}
use Rattle.meaning.specs.Text.{Refusal}
use Rattle.meaning.specs.Replies.{Reply, breach, none, refused, Written, wrote, unwritten}

abbrev pub packed_refusal : Refusal → ℕ
packed_refusal r = 10 + 256 * r.number + 65536 * r.place + 4294967296 * r.offset

unfoldable pub packed_reply : Reply → ℕ
packed_reply (breach a) = 8 + 256 * length a
packed_reply none = 9
packed_reply (refused r) = packed_refusal r

unfoldable pub packed_written : Written → ℕ
packed_written (wrote n) = 256 * n
packed_written (unwritten r) = packed_refusal r
