mod DeviceLaws
mod FeedCounts
mod PlainLaws
mod RunLaws
mod WordLaws
