-- What a longword is for, within its block.
pub data Part : Type 0 where
  BlockWord : Part
  ContentSize : Part
  NameCount : Part
  LongCount : Part
  Payload : Part
  GroupCount : Part
  Target : Part
  Offset : Part
  EntryWord : Part
  ExtWord : Part
  EntryName : Part
  EntryValue : Part
  OffsetCount : Part
