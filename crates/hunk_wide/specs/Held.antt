-- What is held between the bytes that come and those that are given out.
use Rattle.std.specs.Prelude.{ℕ, suc, ◌-◌, List, [], ◌∷◌, ◌++◌, length, take}
use Rattle.std.specs.Option.{option_map}
use Rattle.hunk_words.specs.Carriers.{Supply}
use Rattle.hunk_wide.specs.declared.spot.Spot.{Spot}
use Rattle.hunk_wide.specs.declared.spot.Spot.TheVariants.{Passing, Straight, Long, Half, Filler}
use Rattle.hunk_wide.specs.Plain.{plain_from}

-- the bytes to be given out, and after them what the next ones are for, of which some have come
pub record Held : Type 0 where
  pub ready : List ℕ
  pub spot : Spot
  pub begun : List ℕ

-- The bytes that are given out from here on, where these are still to come.
abbrev pub left_of : Held → List ℕ → List ℕ
left_of h more = h.ready ++ plain_from h.spot (h.begun ++ more)

-- the number of bytes that the next ones are taken together in
abbrev pub unit : Spot → ℕ
unit Passing = 0
unit (Straight owed next) = 1
unit (Long p) = 4
unit (Half after part odd) = 2
unit (Filler after) = 2

abbrev pub wanted_by : List ℕ → Spot → List ℕ → ℕ
wanted_by [] spot begun = unit spot - length begun
wanted_by (x ∷ xs) spot begun = 0

-- How many bytes are wanted before any can be given out; none where there are some, or all pass.
abbrev pub wanted : Held → ℕ
wanted h = wanted_by h.ready h.spot h.begun

-- at most so many bytes come before some can be given out
abbrev pub reach : Spot → ℕ
reach Passing = 0
reach (Straight owed next) = 1
reach (Long p) = 4
reach (Half after part odd) = 2
reach (Filler after) = 6

abbrev pub owed_by : List ℕ → Spot → List ℕ → ℕ
owed_by [] spot begun = reach spot - length begun
owed_by (x ∷ xs) spot begun = 0

abbrev pub owed : Held → ℕ
owed h = owed_by h.ready h.spot h.begun

-- ---- bytes that are given out as they are

abbrev pub straight_by : List ℕ → Spot → List ℕ → List ℕ → List ℕ
straight_by [] Passing [] bytes = bytes
straight_by [] (Straight owed next) [] bytes = take (suc owed) bytes
straight_by ready spot begun bytes = []

-- Of these bytes, if they come next, the first ones that are given out as they are.
abbrev pub straight_of : Held → List ℕ → List ℕ
straight_of h bytes = straight_by h.ready h.spot h.begun bytes

-- ---- a source of the plain spelling

-- what the plain source supplies
abbrev pub supply_of : Held → Supply → Supply
supply_of h s = record { left = option_map (left_of h) s.left; failed = s.failed }
