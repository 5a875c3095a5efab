use Rattle.hunk_c.proofs.FrontKinds.{load_found, load_none, object_found, object_none}
use Rattle.hunk_c.proofs.front.front_of.Goals as goal

pub returns-in-Object-clause-found : goal.returns-in-Object-clause-found
returns-in-Object-clause-found c = object_found c.args.bytes.now c.sniff.result c.sniff.ensures c.in-Object.is c.object_front.result c.object_front.ensures.found

pub returns-in-Object-clause-none : goal.returns-in-Object-clause-none
returns-in-Object-clause-none c = object_none c.args.bytes.now c.sniff.result c.sniff.ensures c.in-Object.is c.object_front.result c.object_front.ensures.none

pub returns-in-Load : goal.returns-in-Load
returns-in-Load c = record {
  found = load_found c.args.bytes.now c.sniff.result c.sniff.ensures c.in-Load.is c.load_front.result c.load_front.ensures.found;
  none = load_none c.args.bytes.now c.sniff.result c.sniff.ensures c.in-Load.is c.load_front.result c.load_front.ensures.none;
}
