use Rattle.regex_meaning.proofs.CodeUnitOffsetsLemmas.{offset-less, place_at-offset, offset-place_at}
use Rattle.regex_meaning.proofs.places_correspond_to_boundaries.Goals as goal

pub returns : goal.returns
returns c text is = record {
  rise = λ p q. offset-less text p q is;
  place = λ p. place_at-offset text p is;
  offset_of_place = λ at p. offset-place_at text at p is;
}
