use Rattle.build_steps.proofs.PublishedObject.{
  written_links_black,
  links_as_laid,
  fields_are_nil,
  blanks_are_nil,
  publishes_whole,
  published_whole,
  register_refers,
  events_build,
}
use Rattle.build_steps.proofs.laws.what_is_published.Goals as goal

pub returns : goal.returns
returns c = record {
  links_black = written_links_black;
  links = links_as_laid;
  fields = fields_are_nil;
  blanks = blanks_are_nil;
  whole = publishes_whole;
  stays = published_whole;
  register = register_refers;
  events = events_build;
}
