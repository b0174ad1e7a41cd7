-- `put_image` meets its contract: all the words, or none where there is no room. Assumes nothing.
use borrow.Author.Rules.{rules}
use Rattle.image.proofs.Imaging.{put-long, put-short}
use Rattle.image.proofs.Puts.{whole_members}
use Rattle.image.proofs.put_image.Goals as goal

pub returns-then-out-ge-IMAGE_WORDS-clause-is : goal.returns-then-out-ge-IMAGE_WORDS-clause-is
returns-then-out-ge-IMAGE_WORDS-clause-is c = put-long c.args.out.now c.args.r c.if-out-ge-IMAGE_WORDS.true c.put_words.ensures

pub returns-then-out-ge-IMAGE_WORDS-clause-whole : goal.returns-then-out-ge-IMAGE_WORDS-clause-whole
returns-then-out-ge-IMAGE_WORDS-clause-whole c _ =
    record {
      head = record { version = search rules; level = search rules; keymint = search rules; keymint_level = search rules };
      software = record {
        present = search rules;
        values = search rules;
        sizes = search rules;
        sets = record {
          purpose = whole_members c.args.r.software.purpose.members (search rules) (λ k. search rules);
          digest = whole_members c.args.r.software.digest.members (search rules) (λ k. search rules);
          padding = whole_members c.args.r.software.padding.members (search rules) (λ k. search rules);
          mgf = whole_members c.args.r.software.mgf.members (search rules) (λ k. search rules);
        };
        state = search rules;
      };
      hardware = record {
        present = search rules;
        values = search rules;
        sizes = search rules;
        sets = record {
          purpose = whole_members c.args.r.hardware.purpose.members (search rules) (λ k. search rules);
          digest = whole_members c.args.r.hardware.digest.members (search rules) (λ k. search rules);
          padding = whole_members c.args.r.hardware.padding.members (search rules) (λ k. search rules);
          mgf = whole_members c.args.r.hardware.mgf.members (search rules) (λ k. search rules);
        };
        state = search rules;
      };
    }

pub returns-else-out-ge-IMAGE_WORDS-clause-is : goal.returns-else-out-ge-IMAGE_WORDS-clause-is
returns-else-out-ge-IMAGE_WORDS-clause-is c = put-short c.args.out.now c.args.r c.if-out-ge-IMAGE_WORDS.false
