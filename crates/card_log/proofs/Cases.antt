-- The marked case 10 at the level of blocks (statement: specs/Cases.antt), from the theorem of the pulled card. Assumes nothing.
use Rattle.std.specs.Prelude.{◌≡◌, List, ℕ}
use Rattle.std.proofs.Common.{arith}
use Rattle.base.specs.Bytes.{Bytes}
use Rattle.card_log.specs.Journal.{logged}
use Rattle.card_log.specs.Headers.{commit_due_some}
use Rattle.card_log.proofs.Crash.{pulled_card}
use Rattle.card_log.specs.Cases.{card1, card1_laid, saved10, saved10_good, Case10}

-- for any contents, any card of case 1 with an empty log, and any recoveries that were cut before the last
pub case10 : (content : ℕ → Bytes) (d : Bytes) (ks : List ℕ) → (logged d).count ≡ 0 → Case10 content d ks
case10 content d ks z =
    record {
      writes = commit_due_some 4 (λ e. omega arith);
      four = λ x o. (pulled_card card1 card1_laid (omega arith) (saved10 content) (saved10_good content) d z 4 ks).old (omega arith) x o;
      five = λ x o. (pulled_card card1 card1_laid (omega arith) (saved10 content) (saved10_good content) d z 5 ks).new (omega arith) x o;
    }
