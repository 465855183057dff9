-- What is claimed of staging and publishing, proved.
-- Assumes nothing.
use Rattle.lerc_staged.specs.Staged.{StagedClaims}
use Rattle.lerc_staged.proofs.InTwo.{refused-in-two, accepted-in-two, meant-in-two, publish-accepts, publish-keeps, stage-keeps, stage-refuses, stage-as-read, publish-refuses, stage-numbers, publish-numbers}
use Rattle.lerc_staged.proofs.Fills.{opened-by-stage, any_order, fills-between, fills-then-read, fills-complete}
use Rattle.lerc_staged.proofs.Again.{publish-twice}
use Rattle.lerc_staged.proofs.Writes.{stage-writes, publish-writes, publish-words}
use Rattle.lerc_staged.proofs.Unread.{stage-unread, read-unread, stage-leaves, publish-unread}

pub claims : StagedClaims
claims = record {
  refused-in-two = refused-in-two;
  accepted-in-two = accepted-in-two;
  meant-in-two = meant-in-two;
  publish-accepts = publish-accepts;
  publish-keeps = publish-keeps;
  stage-keeps = stage-keeps;
  stage-refuses = stage-refuses;
  stage-as-read = stage-as-read;
  publish-refuses = publish-refuses;
  stage-numbers = stage-numbers;
  publish-numbers = publish-numbers;
  opened-by-stage = opened-by-stage;
  any_order = any_order;
  fills-between = fills-between;
  fills-then-read = fills-then-read;
  fills-complete = fills-complete;
  publish-twice = publish-twice;
  stage-writes = stage-writes;
  publish-writes = publish-writes;
  publish-words = publish-words;
  stage-unread = stage-unread;
  read-unread = read-unread;
  stage-leaves = stage-leaves;
  publish-unread = publish-unread;
}
