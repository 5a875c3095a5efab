-- What the engine functions share: a text made of bytes and put, and a source whose bytes they are.
use Rattle.std.proofs.Common.{◌≡◌, ◌∙◌, ℕ, List, Result, Ok, Err, inr, ap, refl, sym, subst, false, true≢false}
use Rattle.std.specs.Prelude.{IfErr}
use Rattle.hunk_words.specs.{Carriers.{Outlet, Supply, Writing}, Puts.PutsText, declared.long_writer.WriteFault.WriteFault}
use Rattle.hunk_commands.specs.{declared.fault.RunFault.{RunFault, TheVariants.Write}, Engine.{PutsOrRefuses, ReadsThenPuts}, Faults.IsWrite, Inputs.ReadsWhole}
use Rattle.hunk_commands.specs.Refusals.{RefusesBytes}
use Rattle.hunk_files.specs.HunkFile.{AreFile}
use Rattle.hunk_scatter.specs.LoadOutcomes.{GivesAtMost}
use Rattle.hunk_commands.proofs.Consumed.{consumed_all}

-- ---- a fault that is handed on

pub handed : {T : Type 0} (P : RunFault → Type 0) (result : Result T RunFault) (fault : RunFault) → ((y : RunFault) × (result ≡ Err y) × (y ≡ fault)) → P fault → IfErr result P
handed {T} P result fault p is = subst (λ (r : Result T RunFault). IfErr r P) (sym (p.1 ∙ ap Err p.2)) is

-- a refusal is no fault of writing
not_write : (fault : RunFault) (bytes : List ℕ) → RefusesBytes fault bytes → IsWrite fault → ⊥
not_write (Write written) bytes is write = is
not_write _ bytes is write = write

no_write : (fault : RunFault) (bytes : List ℕ) (written : ℕ) → fault ≡ Write written → RefusesBytes fault bytes → ⊥
no_write fault bytes written e is = subst (λ (f : RunFault). RefusesBytes f bytes) e is

-- ---- bytes

module _ {W T : Type 0} (outlet : W → Outlet) (IsTextOf : T → List ℕ → Type 0) (bytes : List ℕ) (old : Writing W) where
  Comes : Writing W → Result T RunFault → Type 0
  Comes new r = PutsOrRefuses outlet IsTextOf bytes old new r

  -- they are no file
  pub refuses : (refusal : RunFault) → (AreFile bytes → ⊥) → RefusesBytes refusal bytes → PutsOrRefuses outlet IsTextOf bytes old old (Err refusal)
  unfolding Comes
  refuses refusal none is =
      record {
        done = tt;
        no_failure = tt;
        write = λ written same. absurd (no_write refusal bytes written same is);
        fails = record { broken = λ write. absurd (not_write refusal bytes is write); untouched = λ _. refl };
        refused = λ _. is;
        succeeds = λ file. absurd (none file);
      }

  module _ {S : Type 0} (new : Writing W) (text : List ℕ) (value : T) (is : IsTextOf value text) where
    -- their text was put
    pub put_all : (done : S) → PutsText {T = S} outlet old new text (Ok done) → PutsOrRefuses outlet IsTextOf bytes old new (Ok value)
    put_all done p = record {
      done = (record { text = text; is_text = is; puts = p.puts }, p.all);
      no_failure = p.no_failure;
      write = tt;
      fails = tt;
      refused = tt;
      succeeds = λ _. tt;
    }

    -- the first bytes of it were
    pub put_first : (result : Result T RunFault) (fault : WriteFault) → PutsText {T = S} outlet old new text (Err fault) → ((y : RunFault) × (result ≡ Err y) × (y ≡ Write fault.written)) →
        PutsOrRefuses outlet IsTextOf bytes old new result
    unfolding Comes
    put_first result fault p e =
        subst (Comes new) (sym (e.1 ∙ ap Err e.2)) (record {
          done = tt;
          no_failure = tt;
          write = λ written same. (let is_count : written ≡ fault.written = cc in is_count ∙ p.counted, record { text = text; is_text = (value, is); puts = p.puts });
          fails = record { broken = λ _. p.broken; untouched = λ other. absurd (other tt) };
          refused = λ other. absurd (other tt);
          succeeds = λ _. tt;
        })

-- ---- a source that was read to its end

pub reads_then_puts : {W T : Type 0} (outlet : W → Outlet) (IsTextOf : T → List ℕ → List ℕ → Type 0) (before after : Supply) (most : ℕ) (old new : Writing W) (items bytes : List ℕ)
    (result : Result T RunFault) → ReadsWhole before after most items → bytes ≡ items → (before.failed ≡ false → after.failed ≡ false) → GivesAtMost before after most →
    PutsOrRefuses outlet (λ value. IsTextOf value bytes) bytes old new result → ReadsThenPuts outlet IsTextOf before after most old new result
reads_then_puts {W} {T} outlet IsTextOf before after most old new items bytes result given same sound within = go result
  where
    read : ReadsWhole before after most bytes
    read = subst (λ (xs : List ℕ). ReadsWhole before after most xs) (sym same) given

    go : (r : Result T RunFault) → PutsOrRefuses outlet (λ value. IsTextOf value bytes) bytes old new r → ReadsThenPuts outlet IsTextOf before after most old new r
    go (Ok value) puts = record {
      done = record { input = bytes; read = read; holds = puts.done };
      no_failure = puts.no_failure;
      write = tt;
      fails = tt;
      refused = tt;
      limit = within;
      tells_read = λ fresh now. absurd (true≢false (sym now ∙ sound fresh));
      succeeds = λ has reads writes. tt;
    }
    go (Err fault) puts = record {
      done = tt;
      no_failure = tt;
      write = λ written at. (let stop = puts.write written at in (stop.0, record { input = bytes; read = read; holds = stop.1 }));
      fails = puts.fails;
      refused = λ other. inr (record { input = bytes; read = read; holds = puts.refused other });
      limit = within;
      tells_read = λ fresh now. absurd (true≢false (sym now ∙ sound fresh));
      succeeds = λ has reads writes. (
          let file = subst AreFile (consumed_all before.left after.left has.input bytes has.left read.given read.at_end) has.is_file in
          absurd (true≢false (sym (puts.fails.broken (puts.succeeds file)) ∙ writes)));
    }
