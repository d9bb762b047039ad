-- The table of the marked cases is right (the table: specs/Cases.antt): one test, each row, and one row as one reads it. It stands here, and not in
-- specs/, so that an edit of the table is refused by these theorems. Assumes nothing.
use Rattle.std.specs.Prelude.{◌≡◌, refl, true, [], ◌∷◌, ℕ}
use Rattle.base.specs.Bytes.{put}
use Rattle.base.specs.First.{tabulate}
use Rattle.format.specs.Formatted.{fresh, ones}
use Rattle.std.proofs.Math.Decide.{dec_lt, dec_le}
use Rattle.base.specs.Number.{le, digit}
use Rattle.base.specs.Run.{run}
use Rattle.base.specs.First.{first, all}
use Rattle.base.specs.Bit.{bit_at}
use Rattle.bio.specs.Among.{among}
use Rattle.card_log.specs.Words.{put_words}
use Rattle.card_log.specs.Journal.{held, words, home_write, emptied, install_write, commit_write, commit_due, recover_due, commit, logged, recover, recovered, recoveries, after_crash}
use Rattle.recording.specs.Record.{news_of}
use Rattle.superblock.specs.Entry.{padded, entry_bytes}
use Rattle.superblock.specs.Node.{encoded, addr_bytes, node_in, no_node}
use Rattle.superblock.specs.Disk.{ino_of, bit_of, mem_of}
use Rattle.base.specs.Update.{upd}
use Rattle.format.specs.Formatted.{words as super_bytes, root_block}
use Rattle.rules.specs.Fit.{entry, slot}
use Rattle.rules.specs.Tree.{num_of, name_of}
use Rattle.inode.specs.FitOf.{fit_of, shape_of, taken_of, slot_fit}
use Rattle.path.specs.Names.{same_name}
use Rattle.path.specs.Parts.{other, ends, start_of, end_of, part_of}
use Rattle.dir.specs.Lookup.{has_name, entry_of, lookup}
use Rattle.walk.specs.Step.{step_of}
use Rattle.walk.specs.Walks.{walk_in, walk_of}
use Rattle.walk.specs.Cases.{numbers, root, file, letters, inodes, bitmap as two_files_bitmap, card}
use Rattle.cases.specs.Table.{right, row, at}
use Rattle.cases.specs.Cases.{small, bitmap, cases}

-- the one test
pub cases-right : right cases ≡ true
unfolding cases dec_lt dec_le fresh put ones tabulate news_of among first commit_due after_crash recovered recoveries recover recover_due commit commit_write install_write home_write emptied logged held words put_words run le digit super_bytes encoded addr_bytes root_block entry_bytes padded upd walk_of walk_in step_of lookup entry_of has_name same_name part_of end_of start_of ends other fit_of shape_of taken_of slot_fit num_of name_of slot entry ino_of bit_of mem_of node_in no_node bit_at all numbers root file letters inodes two_files_bitmap card
cases-right = refl

-- each row's equation
pub each : (k : ℕ) → (row cases k).gives ≡ (row cases k).says
each k = at cases cases-right k

-- as one reads
pub fresh-bitmap : bitmap small 5 ≡ 255 ∷ 255 ∷ 255 ∷ 255 ∷ 15 ∷ []
unfolding cases
fresh-bitmap = each 1
