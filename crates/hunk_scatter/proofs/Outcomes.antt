-- What was read has no refusal, and is truncated where it goes on.
use Rattle.std.proofs.Common.{◌≡◌, ℕ, ◌*◌, ◌/◌, ◌<◌, List, ◌++◌, length, sym, subst}
use Rattle.hunk_words.specs.Longs.{longs, bytes_of}
use Rattle.hunk_words.proofs.{LongLaws.length-longs, GatherLaws.gathered-all}
use Rattle.hunk_blocks.specs.Faults.{HasRefusal as RefusalOf}
use Rattle.hunk_blocks.proofs.FaultScan.{front_passes}
use Rattle.hunk_files.specs.{Fault.{IsTruncated, load_files}, FileSteps.{Progress, Next, More}, WordsRead.HasRead}
use Rattle.hunk_files.proofs.walk.Scan.{load_reader, load_reads, read_front, truncated_of}
use Rattle.hunk_scatter.specs.LoaderValues.{HasNoRefusal}
use Rattle.hunk_scatter.proofs.ReadWords.{read_longs}

module _ (ws : List ℕ) (n : Next) (pending fed : List ℕ) (read : HasRead ws n) (few : length pending < 4) (spelled : fed ≡ bytes_of ws ++ pending) where
  pub longs_are : longs fed ≡ ws
  longs_are = gathered-all fed pending ws (read_longs ws n read) few spelled

  pub read_clean : HasNoRefusal fed
  read_clean at reason h = front_passes load_files load_reader load_reads ws at reason (subst (λ (xs : List ℕ). RefusalOf load_files xs at reason) longs_are h) (read_front ws n read)

-- What was read goes on.
pub read_truncated : (ws : List ℕ) (p : Progress) (pending fed : List ℕ) → HasRead ws (More p) → length pending < 4 → fed ≡ bytes_of ws ++ pending → IsTruncated fed (4 * (length fed / 4))
read_truncated ws p pending fed read few spelled =
    subst (λ (n : ℕ). IsTruncated fed (4 * n)) (length-longs fed)
    (truncated_of fed p (subst (λ (xs : List ℕ). HasRead xs (More p)) (sym (longs_are ws (More p) pending fed read few spelled)) read))
