use Rattle.std.proofs.Common.{List, Option, Some, None, ℕ, inl, inr, refl}
use Rattle.hunk_run.specs.Stores.{Leaves, bytes_of_input}
use Rattle.hunk_run.proofs.listing_first.list_first.Goals as goal

left_is : (known : Option (List ℕ)) → Leaves known known
left_is None = tt
left_is (Some bytes) = refl

-- the file could not be opened
pub returns-in-Err-clause-lists : goal.returns-in-Err-clause-lists
returns-in-Err-clause-lists g c =
    let known = bytes_of_input (g.S.Store.holdings c.args.store.now) (g.S.Store.opened c.args.store.now) (g.S.Store.made c.args.store.now) c.args.file.now in record {
      left = known;
      leaves = left_is known;
      lists = record {
        outcome = record { bound = tt; tells = tt; fails = record { broken = λ write. absurd write; untouched = λ other. refl } };
        done = tt;
        ends = inr (inr (0, refl));
        stops = λ read. inl refl;
        is_plain = λ write. absurd write;
      };
      reads = (λ some. (0, refl), λ read. refl);
    }
