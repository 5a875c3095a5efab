-- The first longword that is refused.
use Rattle.std.specs.Prelude.{◌≡◌, ℕ, ◌≤◌, ◌*◌, ◌-◌, if◌then◌else◌, Bool, true, false, List, ◌++◌, length, take, ◌⊎◌}
use Rattle.hunk_words.specs.Bits.{bss_word, end_word, header_word}
use Rattle.std.specs.List.{AllByRecursion}
use Rattle.hunk_words.specs.declared.reason.Reason.{Reason}
use Rattle.hunk_words.specs.declared.reason.Reason.TheVariants as reasons
use Rattle.hunk_words.specs.Longs.{longs, bytes_of}
use Rattle.hunk_grammar.specs.BlockParts.{Part as parts}
use Rattle.hunk_blocks.specs.Faults.{Grammar, Expects as ExpectsOf, HasRefusal as RefusalOf, IsFront, words}
use Rattle.hunk_files.specs.LoadFile.{LoadFileValue, IsLoadFile}
use Rattle.hunk_grammar.specs.Roles.{Role, Role as roles, InBlock, refuse}
use Rattle.hunk_files.specs.LoadText.{labelled, text}

-- Load files.
abbrev pub load_files : Grammar LoadFileValue Role
load_files = record { Is = IsLoadFile; labelled = labelled; refuse = refuse }

-- Some load text begins with these longwords, and then has a longword of this role.
abbrev pub Expects : List ℕ → Role → Type 0
Expects before role = ExpectsOf load_files before role

-- A longword stands where this role is expected, and is refused.
abbrev pub HasRefusal : List ℕ → ℕ → Reason → Type 0
HasRefusal bytes at reason = RefusalOf load_files (longs bytes) at reason

-- The longword that completes a load text at this role: no more hunks, names, sizes, groups or entries than were
-- announced, an empty BSS block where the hunk has no content, and the end of the hunk.
abbrev pub completing : Role → ℕ
completing roles.FirstLong = header_word
completing roles.TableSize = 1
completing (roles.LastHunk hunks) = hunks - 1
completing (InBlock p parts.BlockWord) = if p.has_content then end_word else bss_word
completing _ = 0

-- A load text begins with these longwords, and goes on as it is completed.
pub record IsCompleted (before : List ℕ) : Type 0 where
  pub value : LoadFileValue
  pub is_load_file : IsLoadFile value
  pub done : List (Role × ℕ)
  pub more : List (Role × ℕ)
  pub labels : labelled value ≡ done ++ more
  pub begins : words done ≡ before
  pub completes : AllByRecursion (λ l. l.1 ≡ completing l.0) more

-- The bytes of a load text stand in front.
pub record BeginsWithLoadFile (bytes : List ℕ) : Type 0 where
  pub value : LoadFileValue
  pub is_load_file : IsLoadFile value
  pub rest : List ℕ
  pub split : bytes ≡ bytes_of (text value) ++ rest

-- A load text begins with all the longwords, and none of them ends one.
pub record IsTruncated (bytes : List ℕ) (at : ℕ) : Type 0 where
  pub place : at ≡ 4 * length (longs bytes)
  pub not_whole : BeginsWithLoadFile bytes → ⊥
  pub front : IsFront load_files (longs bytes)

-- The fault of bytes that do not begin with a load file.
abbrev pub HasFault : List ℕ → ℕ → Reason → Type 0
HasFault bytes at reason = HasRefusal bytes at reason ⊎ ((reason ≡ reasons.Truncated) × IsTruncated bytes at)

-- A longword of a load file may be refused for this: number 1 to 9 or 11 to 24.
abbrev pub is_word_refusal : Reason → Bool
is_word_refusal reasons.Advisory = false
is_word_refusal reasons.ExtKind = false
is_word_refusal reasons.Truncated = false
is_word_refusal reasons.Budget = false
is_word_refusal reasons.FileLimit = false
is_word_refusal (reasons.NoBase hunk) = false
is_word_refusal reasons.Read = false
is_word_refusal reasons.OutOfMemory = false
is_word_refusal _ = true

-- A whole load file may be refused for this: also number 26 or 31.
abbrev pub is_load_refusal : Reason → Bool
is_load_refusal reasons.Truncated = true
is_load_refusal reasons.OutOfMemory = true
is_load_refusal reason = is_word_refusal reason

-- The first bytes, as many as the number says, are a load text.
pub record HasLoadText (bytes : List ℕ) (size : ℕ) : Type 0 where
  pub value : LoadFileValue
  pub is_load_file : IsLoadFile value
  pub text_is : take size bytes ≡ bytes_of (text value)
  pub whole : size ≤ length bytes
