use Rattle.hunk_files.proofs.image.Summed.{image_sums, sums_image}
use Rattle.hunk_files.proofs.laws.sum_image.Goals as goal

pub returns-clause-sums : goal.returns-clause-sums
returns-clause-sums c = image_sums

pub returns-clause-one : goal.returns-clause-one
returns-clause-one c = sums_image
